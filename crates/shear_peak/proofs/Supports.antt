-- Moving an axle to the support never lowers the greatest reaction.
use Rattle.std.proofs.Common.{◌≡◌, ℕ, suc, ◌+◌, ◌-◌, ◌*◌, ◌<◌, ◌≤◌, List, [], ◌∷◌, length, arith, refl, ap, ℤ, pos, negsuc, neg_ℤ, ◌+ℤ◌, ◌-ℤ◌, ◌≤ℤ◌, ◌<ℤ◌, inl, inr, ◌⊎◌}
use Rattle.std.proofs.Math.Nat.{mul-le-mul_left, mul-sub}
use Rattle.std.proofs.lemmas.Int.{ints}
use Rattle.std.proofs.lemmas.Bool.{cases_lt}
use Rattle.std.specs.List.{AllByRecursion}
use Rattle.axle_train.specs.declared.axle.Axle.{Axle}
use Rattle.axle_train.specs.Bounds.{RisesFrom}
use Rattle.axle_train.specs.Trains.{axle_at}
use Rattle.axle_train.proofs.Places.{place_least}
use Rattle.influence_line.specs.Placed.{left_line, right_line, Load, placed}
use Rattle.influence_line.specs.Reactions.{reaction_line, reaction_sum}
use Rattle.influence_line.specs.declared.placing.End.{End}
use Rattle.influence_line.specs.declared.placing.End.TheVariants.{Left, Right}
use Rattle.influence_line.proofs.Totals.{total, total_is}
use Rattle.influence_line.proofs.ReactionLines.{left_on, left_before, right_on, right_le, right_past, either_side}
use Rattle.shear_peak.specs.Ends.{lead_to, reaction_to}

-- a load at x, no nearer to the left support than q times t
left_less : (q n t : ℕ) (x : ℤ) → pos (q * t) ≤ℤ x → left_line (q * n) x ≤ q * left_line n (pos t)
left_less q n t (pos x) h = rw (left_on (q * n) x, left_on n t, mul-sub) (omega (arith, ints, h))
left_less q n t (negsuc x) h = omega arith

-- a load at x, no further than q times t before the right support
right_less : (q n t : ℕ) (x : ℤ) → (x +ℤ pos (q * t)) ≤ℤ pos (q * n) → right_line (q * n) x ≤ q * right_line n (pos n -ℤ pos t)
right_less q n t (negsuc x) h = omega arith
right_less q n t (pos x) h =
    elim (cases_lt n t) [
      | inl far ↦
          let gone : q * n ≤ q * t = mul-le-mul_left q (omega arith) in
          omega (arith, ints, h, right_le (q * n) x)
      | inr close ↦
          let at : pos n -ℤ pos t ≡ pos (n - t) = omega (arith, ints) in
          rw (at, right_on n (n - t) (omega arith), mul-sub) (omega (arith, ints, h, right_le (q * n) x))
    ]

abbrev at : ℕ → ℤ → Axle → ℤ
at q lead a = lead +ℤ pos (q * a.place)

-- the first axle at or right of the left support
record FirstOn (q : ℕ) (lead : ℤ) (axles : List Axle) : Type 0 where
  index : ℕ
  within : index < length axles
  stands : pos 0 ≤ℤ at q lead (axle_at axles index)
  before : AllByRecursion (λ b. b.place < (axle_at axles index).place → at q lead b <ℤ pos 0) axles

none_before : (q place least : ℕ) (lead : ℤ) (axles : List Axle) → RisesFrom least axles → place ≤ least → AllByRecursion (λ b. b.place < place → at q lead b <ℤ pos 0) axles
none_before q place least lead [] rises h = tt
none_before q place least lead (a ∷ rest) rises h = (λ k. absurd (omega (arith, rises.0)), none_before q place (a.place + 1) lead rest rises.1 (omega (arith, rises.0)))

first_on : (q least : ℕ) (lead : ℤ) (axles : List Axle) → RisesFrom least axles → AllByRecursion (λ b. at q lead b <ℤ pos 0) axles ⊎ FirstOn q lead axles
first_on q least lead [] rises = inl tt
first_on q least lead (a ∷ rest) rises =
    elim (either_side (at q lead a) 0) [
      | inl off ↦ elim (first_on q (a.place + 1) lead rest rises.1) [
        | inl all ↦ inl (off, all)
        | inr f ↦ inr (record { index = suc f.index; within = omega (arith, f.within); stands = f.stands; before = (λ k. off, f.before) })
      ]
      | inr on ↦ inr (record { index = 0; within = omega arith; stands = on; before = (λ k. absurd (omega arith), none_before q a.place (a.place + 1) lead rest rises.1 (omega arith)) })
    ]

-- the last axle at or left of the right support
record LastOn (q n : ℕ) (lead : ℤ) (axles : List Axle) : Type 0 where
  index : ℕ
  within : index < length axles
  stands : at q lead (axle_at axles index) ≤ℤ pos n
  past : AllByRecursion (λ b. (axle_at axles index).place < b.place → pos n <ℤ at q lead b) axles

past_now : (q n place : ℕ) (lead : ℤ) (axles : List Axle) → AllByRecursion (λ b. pos n <ℤ at q lead b) axles → AllByRecursion (λ b. place < b.place → pos n <ℤ at q lead b) axles
past_now q n place lead [] h = tt
past_now q n place lead (a ∷ rest) h = (λ k. h.0, past_now q n place lead rest h.1)

last_on : (q n least : ℕ) (lead : ℤ) (axles : List Axle) → RisesFrom least axles → AllByRecursion (λ b. pos n <ℤ at q lead b) axles ⊎ LastOn q n lead axles
last_on q n least lead [] rises = inl tt
last_on q n least lead (a ∷ rest) rises =
    elim (last_on q n (a.place + 1) lead rest rises.1) [
      | inr f ↦ inr (record { index = suc f.index; within = omega (arith, f.within); stands = f.stands; past = (λ k. absurd (omega (arith, k, place_least rest (a.place + 1) f.index rises.1 f.within)), f.past) })
      | inl all ↦ elim (either_side (at q lead a) (n + 1)) [
        | inl on ↦ inr (record { index = 0; within = omega arith; stands = omega (arith, ints, on); past = (λ k. absurd (omega arith), past_now q n a.place lead rest all) })
        | inr off ↦ inl (omega (arith, ints, off), all)
      ]
    ]

reaction_is : (n : ℕ) (end : End) (loads : List Load) → total (λ (l : Load). l.weight * reaction_line n end l.at) loads ≡ reaction_sum n end loads
reaction_is n end loads = total_is (λ (l : Load). l.weight * reaction_line n end l.at) loads

apart : (q a b : ℕ) → b ≤ a → q * a ≡ q * b + q * (a - b)
apart q a b h = let e : a ≡ b + (a - b) = omega arith in omega (arith, ap (λ t. q * t) e)

left_one : (q span place : ℕ) (lead : ℤ) (b : Axle) → pos 0 ≤ℤ (lead +ℤ pos (q * place)) → (b.place < place → at q lead b <ℤ pos 0) → left_line (q * span) (at q lead b) ≤ q * left_line (1 * span) (neg_ℤ (pos place) +ℤ pos (1 * b.place))
left_one q span place lead b on before =
    elim (cases_lt b.place place) [
      | inl h ↦ rw (left_before (q * span) (at q lead b) (before h)) (omega arith)
      | inr h ↦
          let here : neg_ℤ (pos place) +ℤ pos (1 * b.place) ≡ pos (b.place - place) = omega (arith, ints) in
          let one : 1 * span ≡ span = omega arith in
          rw (here, one) (left_less q span (b.place - place) (at q lead b) (omega (arith, ints, on, apart q b.place place h)))
    ]

left_all : (q span place : ℕ) (lead : ℤ) (axles : List Axle) → pos 0 ≤ℤ (lead +ℤ pos (q * place)) → AllByRecursion (λ b. b.place < place → at q lead b <ℤ pos 0) axles → total (λ (l : Load). l.weight * reaction_line (q * span) Left l.at) (placed q lead axles) ≤ q * total (λ (l : Load). l.weight * reaction_line (1 * span) Left l.at) (placed 1 (neg_ℤ (pos place)) axles)
left_all q span place lead [] on before = omega arith
left_all q span place lead (a ∷ rest) on before = omega (arith, mul-le-mul_left a.weight (left_one q span place lead a on before.0), left_all q span place lead rest on before.1)

left_none : (q n : ℕ) (lead : ℤ) (axles : List Axle) → AllByRecursion (λ b. at q lead b <ℤ pos 0) axles → total (λ (l : Load). l.weight * reaction_line n Left l.at) (placed q lead axles) ≡ 0
left_none q n lead [] all = refl
left_none q n lead (a ∷ rest) all = omega (arith, ap (λ t. a.weight * t) (left_before n (at q lead a) all.0), left_none q n lead rest all.1)

right_one : (q span place : ℕ) (lead : ℤ) (b : Axle) → (lead +ℤ pos (q * place)) ≤ℤ pos (q * span) → (place < b.place → pos (q * span) <ℤ at q lead b) → right_line (q * span) (at q lead b) ≤ q * right_line (1 * span) ((pos span -ℤ pos place) +ℤ pos (1 * b.place))
right_one q span place lead b on past =
    elim (cases_lt place b.place) [
      | inl h ↦ rw (right_past (q * span) (at q lead b) (past h)) (omega arith)
      | inr h ↦
          let here : (pos span -ℤ pos place) +ℤ pos (1 * b.place) ≡ pos span -ℤ pos (place - b.place) = omega (arith, ints) in
          let one : 1 * span ≡ span = omega arith in
          rw (here, one) (right_less q span (place - b.place) (at q lead b) (omega (arith, ints, on, apart q place b.place h)))
    ]

right_all : (q span place : ℕ) (lead : ℤ) (axles : List Axle) → (lead +ℤ pos (q * place)) ≤ℤ pos (q * span) → AllByRecursion (λ b. place < b.place → pos (q * span) <ℤ at q lead b) axles → total (λ (l : Load). l.weight * reaction_line (q * span) Right l.at) (placed q lead axles) ≤ q * total (λ (l : Load). l.weight * reaction_line (1 * span) Right l.at) (placed 1 (pos span -ℤ pos place) axles)
right_all q span place lead [] on past = omega arith
right_all q span place lead (a ∷ rest) on past = omega (arith, mul-le-mul_left a.weight (right_one q span place lead a on past.0), right_all q span place lead rest on past.1)

right_none : (q n : ℕ) (lead : ℤ) (axles : List Axle) → AllByRecursion (λ b. pos n <ℤ at q lead b) axles → total (λ (l : Load). l.weight * reaction_line n Right l.at) (placed q lead axles) ≡ 0
right_none q n lead [] all = refl
right_none q n lead (a ∷ rest) all = omega (arith, ap (λ t. a.weight * t) (right_past n (at q lead a) all.0), right_none q n lead rest all.1)

-- every reaction is at most that with some axle at the support
pub below_some_axle : (q span least : ℕ) (end : End) (lead : ℤ) (axles : List Axle) → RisesFrom least axles → 0 < length axles → (k : ℕ) × (k < length axles) × (reaction_sum (q * span) end (placed q lead axles) ≤ q * reaction_to axles span end k)
below_some_axle q span least Left lead axles rises some =
    elim (first_on q least lead axles rises) [
      | inl all ↦ (0, some, rw (← reaction_is (q * span) Left (placed q lead axles), left_none q (q * span) lead axles all) (omega arith))
      | inr f ↦ (f.index, f.within, rw (← reaction_is (q * span) Left (placed q lead axles), ← reaction_is (1 * span) Left (placed 1 (lead_to span Left (axle_at axles f.index).place) axles)) (left_all q span (axle_at axles f.index).place lead axles f.stands f.before))
    ]
below_some_axle q span least Right lead axles rises some =
    elim (last_on q (q * span) least lead axles rises) [
      | inl all ↦ (0, some, rw (← reaction_is (q * span) Right (placed q lead axles), right_none q (q * span) lead axles all) (omega arith))
      | inr f ↦ (f.index, f.within, rw (← reaction_is (q * span) Right (placed q lead axles), ← reaction_is (1 * span) Right (placed 1 (lead_to span Right (axle_at axles f.index).place) axles)) (right_all q span (axle_at axles f.index).place lead axles f.stands f.past))
    ]
