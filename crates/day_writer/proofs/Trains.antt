-- The axles of a train are read from their text, and no rule of trains refuses them.
use Rattle.std.proofs.Common.{◌≡◌, ◌<◌, ◌≤◌, ◌+◌, ◌-◌, ◌∷◌, [], ℕ, zero, suc, List, Some, None, eqb, false, refl, arith, length}
use Rattle.std.specs.Prelude.{sum_by}
use Rattle.std.specs.Fmt.{decimal}
use Rattle.std.specs.List.{AllByRecursion}
use Rattle.std.proofs.lemmas.Bool.{eq-eqb, le-leb, le-ltb}
use Rattle.std.proofs.lemmas.List.Elements.{All-append, All-cons}
use Rattle.std.proofs.lemmas.List.Splits.{slice_split_at, slice_split_none}
use Rattle.axle_train.specs.declared.axle.Axle.{Axle}
use Rattle.axle_train.specs.Bounds.{BeginsAtZero, EachFits, IsTrain, RisesFrom}
use Rattle.axle_train.specs.Refusals.{place_fault, refusal_of, rise_fault, weight_fault}
use Rattle.axle_train.specs.Trains.{axle_at}
use Rattle.day_text.specs.Fields.{axle_of, axles_of}
use Rattle.day_writer.specs.Texts.{axle_text, axles_text}
use Rattle.day_writer.proofs.Leaves.{no_colon, no_digit, number_ok}
use Rattle.day_writer.proofs.Plain.{IsPlain, all_append, number_plain}
use Rattle.day_writer.proofs.Splits.{Lacks, each_back, joined_plain, joined_split}

-- numbers of an axle that are below a billion
pub record IsSmall (a : Axle) : Type 0 where
  pub place : a.place < 1000000000
  pub weight : a.weight < 1000000000

pub axle_read : (a : Axle) → IsSmall a → axle_of (axle_text a) ≡ Some a
axle_read a s =
    let p = slice_split_at (λ b. eqb b 58) (decimal a.place) 58 (decimal a.weight) (no_colon a.place (omega (arith, s.place))) refl in
    let q = slice_split_none (λ b. eqb b 58) (decimal a.weight) (no_colon a.weight (omega (arith, s.weight))) in
    rw (p, q, number_ok a.place s.place, number_ok a.weight s.weight) refl

axle_apart : (a : Axle) → IsSmall a → Lacks 32 (axle_text a)
axle_apart a s =
    All-append (λ b. eqb b 32 ≡ false) (decimal a.place) (58 ∷ decimal a.weight) (no_digit 32 a.place (omega arith) (omega (arith, s.place)))
    (All-cons (λ b. eqb b 32 ≡ false) 58 (decimal a.weight) refl (no_digit 32 a.weight (omega arith) (omega (arith, s.weight))))

axle_plain : (a : Axle) → IsSmall a → IsPlain (axle_text a)
axle_plain a s = all_append _ (decimal a.place) (58 ∷ decimal a.weight) (number_plain a.place (omega (arith, s.place))) (number_plain a.weight (omega (arith, s.weight)))

-- what is so of each small axle
all_small : (P : Axle → Type 0) → ((a : Axle) → IsSmall a → P a) → (axles : List Axle) → AllByRecursion IsSmall axles → AllByRecursion P axles
all_small P p [] h = tt
all_small P p (a ∷ axles) (h, hs) = (p a h, all_small P p axles hs)

pub axles_read : (axles : List Axle) → 1 ≤ length axles → AllByRecursion IsSmall axles → axles_of (axles_text axles) ≡ Some axles
axles_read [] some h = absurd (omega arith)
axles_read (a ∷ more) some h =
    let axles : List Axle = a ∷ more in
    rw (joined_split 32 refl axle_text axles (all_small (λ x. Lacks 32 (axle_text x)) axle_apart axles h) a more refl)
    (each_back axle_of axle_text axles (all_small (λ x. axle_of (axle_text x) ≡ Some x) axle_read axles h))

pub axles_plain : (axles : List Axle) → AllByRecursion IsSmall axles → IsPlain (axles_text axles)
axles_plain axles h = joined_plain 32 axle_text axles refl (all_small (λ x. IsPlain (axle_text x)) axle_plain axles h)

-- axles that break no rule
pub no_fault : (axles : List Axle) → 2 ≤ length axles → length axles ≤ 32 → place_fault axles ≡ None → weight_fault 0 axles ≡ None → sum_by (λ a. a.weight) axles ≤ 2000000 → (axle_at axles (length axles - 1)).place ≤ 3000 → refusal_of axles ≡ None
no_fault axles some few places weights light short =
    rw (le-ltb (length axles) 2 some, le-ltb 32 (length axles) few, places, weights, le-ltb 2000000 (sum_by (λ (a : Axle). a.weight) axles) light, le-ltb 3000 (axle_at axles (length axles - 1)).place short) refl

rises : (axles : List Axle) (least i : ℕ) → RisesFrom least axles → rise_fault least i axles ≡ None
rises [] least i h = refl
rises (a ∷ rest) least i (h, hs) = rw (le-leb least a.place h) (rises rest (a.place + 1) (i + 1) hs)

rise_more : (axles : List Axle) (least more : ℕ) → least ≡ more → RisesFrom least axles → RisesFrom more axles
rise_more [] least more e h = tt
rise_more (a ∷ rest) least more e (h, hs) = (omega arith, hs)

places : (axles : List Axle) → BeginsAtZero axles → RisesFrom 0 axles → place_fault axles ≡ None
places [] begins h = refl
places (a ∷ rest) begins (h, hs) = rw (eq-eqb a.place 0 begins) (rises rest 1 1 (rise_more rest (a.place + 1) 1 (omega (arith, begins)) hs))

weighs : (axles : List Axle) (i : ℕ) → EachFits axles → weight_fault i axles ≡ None
weighs [] i h = refl
weighs (a ∷ rest) i h = rw (le-leb 1 a.weight h.1, le-leb a.weight 200000 h.2) (weighs rest (i + 1) h.3)

near : (axles : List Axle) (i : ℕ) → EachFits axles → (axle_at axles i).place ≤ 3000
near [] i h = omega arith
near (a ∷ rest) zero h = h.0
near (a ∷ rest) (suc i) h = near rest i h.3

-- a train is refused for no rule
pub train_taken : (axles : List Axle) → IsTrain axles → refusal_of axles ≡ None
train_taken axles h = no_fault axles h.many h.few (places axles h.first h.rising) (weighs axles 0 h.each) h.gross (near axles (length axles - 1) h.each)

-- and its numbers are small
small_from : (axles : List Axle) → EachFits axles → AllByRecursion IsSmall axles
small_from [] h = tt
small_from (a ∷ rest) h = (record { place = omega (arith, h.0); weight = omega (arith, h.2) }, small_from rest h.3)

pub train_small : (axles : List Axle) → IsTrain axles → AllByRecursion IsSmall axles
train_small axles h = small_from axles h.each
