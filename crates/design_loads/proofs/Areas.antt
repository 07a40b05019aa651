-- Any intervals in order have together at most the area of the whole span under an influence line.
use Rattle.std.proofs.Common.{◌≡◌, ℕ, ◌+◌, ◌-◌, ◌*◌, ◌<◌, ◌≤◌, List, [], ◌∷◌, cond, leb, sum_by, arith, ap, sym, ◌∙◌, inl, inr}
use Rattle.std.proofs.Math.Nat.{mul-le-mul_left, mul-sub, mul-le-mul}
use Rattle.std.proofs.lemmas.Bool.{cases_lt}
use Rattle.std.proofs.lemmas.Bool.Decides.{nat_tests}
use Rattle.influence_line.specs.declared.placing.End.{End}
use Rattle.influence_line.specs.declared.placing.End.TheVariants.{Left, Right}
use Rattle.influence_line.proofs.Totals.{total, total_is}
use Rattle.design_loads.specs.Lane.{Interval, AreInOrder, moment_area, reaction_area}

pub square : (a b : ℕ) → a ≤ b → a * a ≤ b * b
square a b h = mul-le-mul h h

-- intervals in order end within the span
within_span : (n least : ℕ) (intervals : List Interval) → AreInOrder n least intervals → least ≤ n
within_span n least [] h = h
within_span n least (i ∷ rest) h = omega (arith, h.0, h.1, within_span n i.to rest h.2)

-- the sum over one interval
pub one_interval : (area : Interval → ℕ) (i : Interval) → sum_by area (i ∷ []) ≡ area i
one_interval area i = let alone : total area (i ∷ []) ≡ area i = omega arith in sym (total_is area (i ∷ [])) ∙ alone

-- twice the area under the influence line of the moment at r, from the left support up to x
abbrev area_up_to : ℕ → ℕ → ℕ → ℕ
area_up_to n r x = cond (leb x r) ((n - r) * (x * x)) ((n - r) * (r * r) + r * ((n - r) * (n - r) - (n - x) * (n - x)))

up_to_left : (n r x : ℕ) → x ≤ r → area_up_to n r x ≡ (n - r) * (x * x)
up_to_left n r x h = grind (arith, nat_tests)

up_to_past : (n r x : ℕ) → r < x → area_up_to n r x ≡ (n - r) * (r * r) + r * ((n - r) * (n - r) - (n - x) * (n - x))
up_to_past n r x h = grind (arith, nat_tests)

no_square : (s r : ℕ) → s * (r * r) ≡ s * (r * r) + r * (s * s - s * s)
no_square s r = let none : s * s - s * s ≡ 0 = omega arith in omega (arith, ap (λ t. r * t) none)

up_to_right : (n r x : ℕ) → r ≤ x → area_up_to n r x ≡ (n - r) * (r * r) + r * ((n - r) * (n - r) - (n - x) * (n - x))
up_to_right n r x h =
    elim (cases_lt r x) [
      | inl past ↦ up_to_past n r x past
      | inr at ↦ let same : x ≡ r = omega arith in rw same (up_to_left n r r (omega arith) ∙ no_square (n - r) r)
    ]

-- an interval's area by where it lies
pub area_left : (n r : ℕ) (i : Interval) → i.to ≤ r → moment_area n r i ≡ (n - r) * (i.to * i.to - i.from * i.from)
area_left n r i h = grind (arith, nat_tests)

pub area_right : (n r : ℕ) (i : Interval) → r < i.to → r ≤ i.from
    → moment_area n r i ≡ r * ((n - i.from) * (n - i.from) - (n - i.to) * (n - i.to))
area_right n r i h k = grind (arith, nat_tests)

pub area_around : (n r : ℕ) (i : Interval) → r < i.to → i.from < r
    → moment_area n r i ≡ (n - r) * (r * r - i.from * i.from) + r * ((n - r) * (n - r) - (n - i.to) * (n - i.to))
area_around n r i h k = grind (arith, nat_tests)

both_left : (s a b : ℕ) → a ≤ b → s * (b * b - a * a) + s * (a * a) ≡ s * (b * b)
both_left s a b h = omega (arith, mul-sub s (b * b) (a * a), mul-le-mul_left s (square a b h))

both_right : (s r u v base : ℕ) → v ≤ u → u ≤ s → r * (u * u - v * v) + (base + r * (s * s - u * u)) ≡ base + r * (s * s - v * v)
both_right s r u v base h k =
    let over = mul-le-mul_left r (square v u h) in
    let under = mul-le-mul_left r (square u s k) in
    omega (arith, mul-sub r (u * u) (v * v), mul-sub r (s * s) (u * u), mul-sub r (s * s) (v * v), over, under)

around : (s r a rest : ℕ) → a ≤ r → (s * (r * r - a * a) + rest) + s * (a * a) ≡ s * (r * r) + rest
around s r a rest h = omega (arith, mul-sub s (r * r) (a * a), mul-le-mul_left s (square a r h))

-- it is the difference of the areas up to its two ends
area_is : (n r : ℕ) (i : Interval) → r ≤ n → i.from ≤ i.to → i.to ≤ n
    → moment_area n r i + area_up_to n r i.from ≡ area_up_to n r i.to
area_is n r i within some short =
    elim (cases_lt r i.to) [
      | inr left ↦
          rw (area_left n r i left, up_to_left n r i.from (omega arith), up_to_left n r i.to left)
          (both_left (n - r) i.from i.to some)
      | inl right ↦ elim (cases_lt i.from r) [
        | inl over ↦
            rw (area_around n r i right over, up_to_left n r i.from (omega arith), up_to_right n r i.to (omega arith))
            (around (n - r) r i.from (r * ((n - r) * (n - r) - (n - i.to) * (n - i.to))) (omega arith))
        | inr beyond ↦
            rw (area_right n r i right beyond, up_to_right n r i.from beyond, up_to_right n r i.to (omega arith))
            (both_right (n - r) r (n - i.from) (n - i.to) ((n - r) * (r * r)) (omega arith) (omega arith))
      ]
    ]

grows : (n r a b : ℕ) → r ≤ n → a ≤ b → b ≤ n → area_up_to n r a ≤ area_up_to n r b
grows n r a b within h short = omega (arith, area_is n r (record { from = a; to = b }) within h short)

areas_within : (n r least : ℕ) (intervals : List Interval) → r ≤ n → AreInOrder n least intervals
    → total (moment_area n r) intervals + area_up_to n r least ≤ area_up_to n r n
areas_within n r least [] within h = omega (arith, grows n r least n within h (omega arith))
areas_within n r least (i ∷ rest) within h =
    let short = within_span n i.to rest h.2 in
    let this = area_is n r i within (omega (arith, h.1)) short in
    let gap = grows n r least i.from within h.0 (omega (arith, h.1, short)) in
    omega (arith, areas_within n r i.to rest within h.2, this, gap)

whole_from : (n r s : ℕ) → n ≡ r + s → s * (r * r) + r * (s * s - (n - n) * (n - n)) ≡ s * r * n
whole_from n r s e =
    let end : n - n ≡ 0 = omega arith in
    let square : s * s - 0 * 0 ≡ s * s = omega arith in
    rw (end, square, e) (omega arith)

whole : (n r : ℕ) → r ≤ n → area_up_to n r n ≡ (n - r) * r * n
whole n r h = rw (up_to_right n r n h) (whole_from n r (n - r) (omega arith))

-- twice the area under the influence line of the moment, over any intervals
pub moment_areas_most : (n r s : ℕ) (intervals : List Interval) → r + s ≡ n → AreInOrder n 0 intervals
    → sum_by (moment_area n r) intervals ≤ s * r * n
moment_areas_most n r s intervals e h =
    let rest : n - r ≡ s = omega arith in
    let within = areas_within n r 0 intervals (omega arith) h in
    let span = ap (λ t. t * r * n) rest in
    let all : total (moment_area n r) intervals ≤ s * r * n = omega (arith, within, whole n r (omega arith), span) in
    rw (total_is (moment_area n r) intervals) at all

-- what an interval gives to a reaction, by squares that grow along the span
left_area : (n : ℕ) (i : Interval) → i.from ≤ i.to → reaction_area n Left i + (n - i.to) * (n - i.to) ≡ (n - i.from) * (n - i.from)
left_area n i h =
    let less : n - i.to ≤ n - i.from = omega arith in
    omega (arith, square (n - i.to) (n - i.from) less)

right_area : (n : ℕ) (i : Interval) → i.from ≤ i.to → reaction_area n Right i + i.from * i.from ≡ i.to * i.to
right_area n i h = omega (arith, square i.from i.to h)

left_areas : (n least : ℕ) (intervals : List Interval) → AreInOrder n least intervals
    → total (reaction_area n Left) intervals ≤ (n - least) * (n - least)
left_areas n least [] h = omega arith
left_areas n least (i ∷ rest) h =
    let less : n - i.from ≤ n - least = omega (arith, h.0) in
    omega (arith, left_area n i (omega (arith, h.1)), left_areas n i.to rest h.2, square (n - i.from) (n - least) less)

right_areas : (n least : ℕ) (intervals : List Interval) → AreInOrder n least intervals
    → total (reaction_area n Right) intervals + least * least ≤ n * n
right_areas n least [] h = omega (arith, square least n h)
right_areas n least (i ∷ rest) h =
    omega (arith, right_area n i (omega (arith, h.1)), right_areas n i.to rest h.2, square least i.from h.0)

total_most : (n : ℕ) (end : End) (intervals : List Interval) → AreInOrder n 0 intervals
    → total (reaction_area n end) intervals ≤ n * n
total_most n Left intervals h = let all : n - 0 ≡ n = omega arith in rw all at (left_areas n 0 intervals h)
total_most n Right intervals h = omega (arith, right_areas n 0 intervals h)

-- twice the area under the influence line of a reaction, over any intervals
pub reaction_areas_most : (n : ℕ) (end : End) (intervals : List Interval) → AreInOrder n 0 intervals
    → sum_by (reaction_area n end) intervals ≤ n * n
reaction_areas_most n end intervals h = rw (total_is (reaction_area n end) intervals) at (total_most n end intervals h)
