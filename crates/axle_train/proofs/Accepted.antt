-- A list that breaks no rule is a train.
use Rattle.std.proofs.Common.{◌≡◌, ℕ, zero, suc, ◌+◌, ◌-◌, ◌<◌, ◌≤◌, ◌&&◌, List, [], ◌∷◌, length, Bool, true, false, cond, leb, ltb, eqb, Option, Some, None, sum_by, arith, refl}
use Rattle.std.proofs.lemmas.Bool.Decides.{nat_tests}
use Rattle.axle_train.specs.declared.axle.Axle.{Axle}
use Rattle.axle_train.specs.declared.refusal.TrainRefusal.{TrainRefusal}
use Rattle.axle_train.specs.declared.refusal.TrainRefusal.TheVariants.{TooFew, TooMany, Gross, TooLong}
use Rattle.axle_train.specs.Bounds.{RisesFrom, EachFits, BeginsAtZero, IsTrain}
use Rattle.axle_train.specs.Trains.{axle_at}
use Rattle.axle_train.specs.Refusals.{rise_fault, place_fault, weight_fault, weight_refusal, place_refusal, refusal_of}
use Rattle.axle_train.proofs.Places.{place_ordered}

-- a choice that gives nothing went the first way
pub chosen : {X : Type 0} (b : Bool) (r : Option X) (x : X) → cond b r (Some x) ≡ None → (b ≡ true) × (r ≡ None)
chosen true r x h = (refl, h)
chosen false r x h = cc

pub not_chosen : {X : Type 0} (b : Bool) (r : Option X) (x : X) → cond b (Some x) r ≡ None → (b ≡ false) × (r ≡ None)
not_chosen true r x h = cc
not_chosen false r x h = (refl, h)

pub in_range : (w : ℕ) → (leb 1 w && leb w 200000) ≡ true → (1 ≤ w) × (w ≤ 200000)
in_range w h = grind (arith, nat_tests)

pub at_least : (m n : ℕ) → leb m n ≡ true → m ≤ n
at_least m n h = grind (arith, nat_tests)

pub at_most : (m n : ℕ) → ltb m n ≡ false → n ≤ m
at_most m n h = grind (arith, nat_tests)

pub is_zero : (n : ℕ) → eqb n 0 ≡ true → n ≡ 0
is_zero n h = grind (arith, nat_tests)

-- each weight is in range
pub weight_at : (axles : List Axle) (n i : ℕ) → weight_fault n axles ≡ None → i < length axles → (1 ≤ (axle_at axles i).weight) × ((axle_at axles i).weight ≤ 200000)
weight_at [] n i h k = omega arith
weight_at (a ∷ rest) n zero h k = in_range a.weight (chosen (leb 1 a.weight && leb a.weight 200000) (weight_fault (n + 1) rest) n h).0
weight_at (a ∷ rest) n (suc i) h k = weight_at rest (n + 1) i (chosen (leb 1 a.weight && leb a.weight 200000) (weight_fault (n + 1) rest) n h).1 (omega arith)

rises : (axles : List Axle) (least n : ℕ) → rise_fault least n axles ≡ None → RisesFrom least axles
rises [] least n h = tt
rises (a ∷ rest) least n h =
    let c = chosen (leb least a.place) (rise_fault (a.place + 1) (n + 1) rest) n h in
    (at_least least a.place c.0, rises rest (a.place + 1) (n + 1) c.1)

less_first : (axles : List Axle) (least m : ℕ) → RisesFrom least axles → m ≤ least → RisesFrom m axles
less_first [] least m h k = tt
less_first (a ∷ rest) least m h k = (omega (arith, h.0), h.1)

pub begins : (axles : List Axle) → place_fault axles ≡ None → BeginsAtZero axles
begins [] h = tt
begins (a ∷ rest) h = is_zero a.place (chosen (eqb a.place 0) (rise_fault 1 1 rest) 0 h).0

pub rises_all : (axles : List Axle) → place_fault axles ≡ None → RisesFrom 0 axles
rises_all [] h = tt
rises_all (a ∷ rest) h =
    let c = chosen (eqb a.place 0) (rise_fault 1 1 rest) 0 h in
    let zero_place = is_zero a.place c.0 in
    (omega arith, less_first rest 1 (a.place + 1) (rises rest 1 1 c.1) (omega arith))

each_from : (axles : List Axle) → ((i : ℕ) → i < length axles → ((axle_at axles i).place ≤ 3000) × (1 ≤ (axle_at axles i).weight) × ((axle_at axles i).weight ≤ 200000)) → EachFits axles
each_from [] h = tt
each_from (a ∷ rest) h =
    let first = h 0 (omega arith) in
    (first.0, first.1, first.2, each_from rest (λ i k. h (suc i) (omega arith)))

no_place : (p : Option ℕ) (r : Option TrainRefusal) → place_refusal p r ≡ None → (p ≡ None) × (r ≡ None)
no_place None r h = (refl, h)
no_place (Some at) r h = cc

no_weight : (p : Option ℕ) (r : Option TrainRefusal) → weight_refusal p r ≡ None → (p ≡ None) × (r ≡ None)
no_weight None r h = (refl, h)
no_weight (Some at) r h = cc

pub is_train : (axles : List Axle) → refusal_of axles ≡ None → IsTrain axles
is_train axles h =
    let few = not_chosen (ltb (length axles) 2) _ TooFew h in
    let many = not_chosen (ltb 32 (length axles)) _ TooMany few.1 in
    let places = no_place (place_fault axles) _ many.1 in
    let weights = no_weight (weight_fault 0 axles) _ places.1 in
    let gross = not_chosen (ltb 2000000 (sum_by (λ (a : Axle). a.weight) axles)) _ Gross weights.1 in
    let long = not_chosen (ltb 3000 (axle_at axles (length axles - 1)).place) None TooLong gross.1 in
    let rising = rises_all axles places.0 in
    let enough : 2 ≤ length axles = at_most (length axles) 2 few.0 in
    let last = at_most 3000 (axle_at axles (length axles - 1)).place long.0 in
    record {
      many = enough;
      few = at_most 32 (length axles) many.0;
      first = begins axles places.0;
      rising = rising;
      each = each_from axles (λ i k.
          let w = weight_at axles 0 i weights.0 k in
          let ordered = place_ordered axles 0 i (length axles - 1) rising (omega arith) (omega arith) in
          (omega arith, w.0, w.1));
      gross = at_most 2000000 (sum_by (λ (a : Axle). a.weight) axles) gross.0;
    }
