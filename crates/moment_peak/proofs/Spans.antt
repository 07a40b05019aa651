-- The axles of a placed train that are on the span are a run.
use Rattle.std.proofs.Common.{◌≡◌, ℕ, ◌+◌, ◌*◌, ◌<◌, ◌≤◌, List, [], ◌∷◌, ◌++◌, arith, refl, ap, sym, ℤ, pos, negsuc, ◌+ℤ◌, ◌≤ℤ◌, inl, inr}
use Rattle.std.proofs.lemmas.Bool.{cases_lt}
use Rattle.std.proofs.lemmas.Bool.Decides.{nat_tests}
use Rattle.std.proofs.lemmas.Int.{ints}
use Rattle.std.proofs.Math.Nat.{mul-le-mul_left}
use Rattle.std.specs.List.{AllByRecursion}
use Rattle.influence_line.specs.Placed.{moment_line, moment_sum, placed, Load}
use Rattle.axle_train.specs.declared.axle.Axle.{Axle}
use Rattle.axle_train.specs.Bounds.{RisesFrom}
use Rattle.influence_line.proofs.Totals.{total, total_is, total-append}

-- where an axle stands
abbrev pub at : ℕ → ℤ → Axle → ℤ
at q lead a = lead +ℤ pos (q * a.place)

abbrev pub IsBefore : ℕ → ℤ → Axle → Type 0
IsBefore q lead a = (x : ℕ) × (at q lead a ≡ negsuc x)

abbrev pub IsAboard : ℕ → ℕ → ℤ → Axle → Type 0
IsAboard q n lead a = (x : ℕ) × (at q lead a ≡ pos x) × (x ≤ n)

abbrev pub IsPast : ℕ → ℕ → ℤ → Axle → Type 0
IsPast q n lead a = (x : ℕ) × (at q lead a ≡ pos x) × (n < x)

pub record Split (q n : ℕ) (lead : ℤ) (axles : List Axle) : Type 0 where
  pub front : List Axle
  pub run : List Axle
  pub back : List Axle
  pub whole : axles ≡ front ++ (run ++ back)
  pub before : AllByRecursion (IsBefore q lead) front
  pub aboard : AllByRecursion (IsAboard q n lead) run
  pub past : AllByRecursion (IsPast q n lead) back

further : (q least place m : ℕ) (lead : ℤ) → least ≤ place → pos m ≤ℤ (lead +ℤ pos (q * least)) → pos m ≤ℤ (lead +ℤ pos (q * place))
further q least place m lead h k = omega (arith, ints, mul-le-mul_left q h, k)

as_natural : (m : ℕ) (z : ℤ) → pos m ≤ℤ z → (x : ℕ) × (z ≡ pos x) × (m ≤ x)
as_natural m (pos x) h = (x, refl, omega (arith, ints, h))
as_natural m (negsuc x) h = absurd (omega (arith, ints, h))

all_past : (q n : ℕ) (lead : ℤ) (least : ℕ) (axles : List Axle) → RisesFrom least axles → pos (n + 1) ≤ℤ (lead +ℤ pos (q * least)) → AllByRecursion (IsPast q n lead) axles
all_past q n lead least [] rises h = tt
all_past q n lead least (a ∷ rest) rises h =
    let x = as_natural (n + 1) (at q lead a) (further q least a.place (n + 1) lead rises.0 h) in
    ((x.0, x.1, omega (arith, x.2)), all_past q n lead (a.place + 1) rest rises.1 (further q a.place (a.place + 1) (n + 1) lead (omega arith) (further q least a.place (n + 1) lead rises.0 h)))

-- from a place on the span, or right of it
split_after : (q n : ℕ) (lead : ℤ) (least : ℕ) (axles : List Axle) → RisesFrom least axles → pos 0 ≤ℤ (lead +ℤ pos (q * least)) → (run : List Axle) × (back : List Axle) × (axles ≡ run ++ back) × AllByRecursion (IsAboard q n lead) run × AllByRecursion (IsPast q n lead) back
split_after q n lead least [] rises h = ([], [], refl, tt, tt)
split_after q n lead least (a ∷ rest) rises h =
    let here = further q least a.place 0 lead rises.0 h in
    let x = as_natural 0 (at q lead a) here in
    elim (cases_lt n x.0) [
      | inl far ↦
          let beyond : pos (n + 1) ≤ℤ (lead +ℤ pos (q * a.place)) = omega (arith, ints, x.1) in
          ([], a ∷ rest, refl, tt, ((x.0, x.1, far), all_past q n lead (a.place + 1) rest rises.1 (further q a.place (a.place + 1) (n + 1) lead (omega arith) beyond)))
      | inr near ↦
          let more = split_after q n lead (a.place + 1) rest rises.1 (further q a.place (a.place + 1) 0 lead (omega arith) here) in
          (a ∷ more.0, more.1, ap (λ (t : List Axle). a ∷ t) more.2, ((x.0, x.1, near), more.3), more.4)
    ]

split_at : (q n : ℕ) (lead : ℤ) (least : ℕ) (a : Axle) (rest : List Axle) (x : ℤ) → at q lead a ≡ x → RisesFrom least (a ∷ rest) → Split q n lead rest → Split q n lead (a ∷ rest)
split_at q n lead least a rest (negsuc x) e rises s = record { front = a ∷ s.front; run = s.run; back = s.back; whole = ap (λ (t : List Axle). a ∷ t) s.whole; before = ((x, e), s.before); aboard = s.aboard; past = s.past }
split_at q n lead least a rest (pos x) e rises s =
    let here : pos 0 ≤ℤ (lead +ℤ pos (q * a.place)) = omega (arith, ints, e) in
    let more = split_after q n lead a.place (a ∷ rest) (omega arith, rises.1) here in
    record { front = []; run = more.0; back = more.1; whole = more.2; before = tt; aboard = more.3; past = more.4 }

-- the axles before the span, on it, and past it
pub split : (q n : ℕ) (lead : ℤ) (least : ℕ) (axles : List Axle) → RisesFrom least axles → Split q n lead axles
split q n lead least [] rises = record { front = []; run = []; back = []; whole = refl; before = tt; aboard = tt; past = tt }
split q n lead least (a ∷ rest) rises = split_at q n lead least a rest (at q lead a) refl rises (split q n lead (a.place + 1) rest rises.1)

abbrev pub line_of : ℕ → ℕ → ℕ → ℤ → Axle → ℕ
line_of q n r lead a = a.weight * moment_line n r (at q lead a)

zero_before : (q n r : ℕ) (lead : ℤ) (axles : List Axle) → AllByRecursion (IsBefore q lead) axles → total (line_of q n r lead) axles ≡ 0
zero_before q n r lead [] h = refl
zero_before q n r lead (a ∷ rest) h =
    let one : moment_line n r (at q lead a) ≡ 0 = rw h.0.1 refl in
    omega (arith, ap (λ t. a.weight * t) one, zero_before q n r lead rest h.1)

pub off_line : (n r x : ℕ) → n < x → moment_line n r (pos x) ≡ 0
off_line n r x h = grind (arith, nat_tests)

zero_past : (q n r : ℕ) (lead : ℤ) (axles : List Axle) → AllByRecursion (IsPast q n lead) axles → total (line_of q n r lead) axles ≡ 0
zero_past q n r lead [] h = refl
zero_past q n r lead (a ∷ rest) h =
    let one : moment_line n r (at q lead a) ≡ 0 = rw h.0.1 (off_line n r h.0.0 h.0.2) in
    omega (arith, ap (λ t. a.weight * t) one, zero_past q n r lead rest h.1)

line_placed : (q n r : ℕ) (lead : ℤ) (axles : List Axle) → total (λ (l : Load). l.weight * moment_line n r l.at) (placed q lead axles) ≡ total (line_of q n r lead) axles
line_placed q n r lead [] = refl
line_placed q n r lead (a ∷ rest) = omega (arith, line_placed q n r lead rest)

-- the moment is that of the run on the span
pub moment_of_run : (q n r : ℕ) (lead : ℤ) (axles : List Axle) → (s : Split q n lead axles) → moment_sum n r (placed q lead axles) ≡ total (line_of q n r lead) s.run
moment_of_run q n r lead axles s =
    let e = line_placed q n r lead axles in
    let i = sym (total_is (λ (l : Load). l.weight * moment_line n r l.at) (placed q lead axles)) in
    let w = ap (total (line_of q n r lead)) s.whole in
    let a = total-append (line_of q n r lead) s.front (s.run ++ s.back) in
    let b = total-append (line_of q n r lead) s.run s.back in
    let f = zero_before q n r lead s.front s.before in
    let g = zero_past q n r lead s.back s.past in
    omega (arith, i, e, w, a, b, f, g)
