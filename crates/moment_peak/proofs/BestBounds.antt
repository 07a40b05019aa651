-- At its own vertex each run has at least its value.
use Rattle.std.proofs.Common.{◌≡◌, ℕ, ◌+◌, ◌-◌, ◌*◌, ◌<◌, ◌≤◌, List, [], ◌∷◌, length, take, drop, arith, refl, ap, ◌∙◌, ℤ, pos, ◌+ℤ◌, ◌-ℤ◌, inl, inr, length-drop, length-take, get_or-drop, get_or-take}
use Rattle.std.proofs.Math.Nat.{mul-sub, mul-pos, add-zero, sub-zero, mul_comm}
use Rattle.std.proofs.lemmas.Bool.{cases_lt}
use Rattle.std.proofs.lemmas.Int.{ints}
use Rattle.std.proofs.lemmas.List.Sums.{sum_by-take-le, sum_by-take-drop, get_or-le-sum_by}
use Rattle.axle_train.specs.declared.axle.Axle.{Axle}
use Rattle.axle_train.specs.Bounds.{EachFits}
use Rattle.axle_train.specs.Trains.{axle_at, no_axle}
use Rattle.axle_train.proofs.Places.{axle_fits}
use Rattle.influence_line.specs.Placed.{moment_sum, placed}
use Rattle.moment_peak.specs.Runs.{run, weight_in, front_in, back_in, run_weight, run_value, vertex_value, IsRunWith}
use Rattle.influence_line.proofs.Totals.{total, total_is, under_of}
use Rattle.moment_peak.proofs.Runs.{weight_of, front_of, back_of, share_all}
use Rattle.influence_line.proofs.Lines.{moment_under}
use Rattle.moment_peak.proofs.Bound.{BelowVertex}

-- a run has weight
pub run_loaded : (axles : List Axle) (k first last : ℕ) → EachFits axles → IsRunWith axles k first last → 0 < run_weight axles first last
run_loaded axles k first last fits is_run =
    let short : k - first < last + 1 - first = omega (arith, is_run.to, is_run.from) in
    let here : first + (k - first) ≡ k = omega (arith, is_run.from) in
    let in_run : axle_at (run axles first last) (k - first) ≡ axle_at axles k = get_or-take (last + 1 - first) (drop first axles) (k - first) no_axle short ∙ rw (get_or-drop, here) refl in
    let heavy : 1 ≤ (axle_at axles k).weight = (axle_fits axles k fits (omega (arith, is_run.to, is_run.within))).1 in
    let there : k - first < length (run axles first last) = omega (arith, length-take (last + 1 - first) (drop first axles), length-drop first axles, is_run.to, is_run.from, is_run.within) in
    let part = get_or-le-sum_by weight_of (run axles first last) (k - first) no_axle there in
    omega (arith, ap weight_of in_run, part)

-- the value of a run by its sums
value_by_sums : (span : ℕ) (middle : List Axle) (place : ℕ) → vertex_value span (weight_in middle) (front_in place middle) (back_in place middle) ≡ vertex_value span (total weight_of middle) (total (front_of place) middle) (total (back_of place) middle)
value_by_sums span middle place = rw (total_is weight_of middle, total_is (front_of place) middle, total_is (back_of place) middle) refl

pub below_value : (q span m x place : ℕ) (middle : List Axle) → BelowVertex q span m x place middle → 4 * weight_in middle * m ≤ q * q * vertex_value span (weight_in middle) (front_in place middle) (back_in place middle)
unfolding vertex_value
below_value q span m x place middle b = rw (value_by_sums span middle place, ← total_is weight_of middle) (b.bound _ _ (omega (arith, b.left_in)) (omega (arith, b.right_in)))

-- a run gives no more than the train
under_run : (f : Axle → ℕ) (axles : List Axle) (first n : ℕ) → total f (take n (drop first axles)) ≤ total f axles
under_run f axles first n = omega (arith, total_is f axles, total_is f (take n (drop first axles)), sum_by-take-le f (drop first axles) n, sum_by-take-drop f axles first)

lower_from : (R D E v u m : ℕ) → R * (v * u) ≤ m + 2 * R * (D * u + E * v) → (v * u - 2 * (D * u + E * v)) * R ≤ m
lower_from R D E v u m h = rw (mul_comm (v * u - 2 * (D * u + E * v)) R, mul-sub) (omega arith)

no_product : (v u b : ℕ) → v ≡ 0 → 0 < v * u - b → ⊥
no_product v u b e h = omega (arith, rw e at h)

no_product_right : (v u b : ℕ) → u ≡ 0 → 0 < v * u - b → ⊥
no_product_right v u b e h = omega (arith, rw e at h)

-- where a value is not 0 its place is on the span
pub inside_left : (span R D E : ℕ) → 0 < vertex_value span R D E → E ≤ R * span + D
unfolding vertex_value
inside_left span R D E h = elim (cases_lt (R * span + D) E) [
  | inl far ↦ let none : R * span + D - E ≡ 0 = omega arith in absurd (no_product _ _ _ none h)
  | inr near ↦ near
]

pub inside_right : (span R D E : ℕ) → 0 < vertex_value span R D E → D ≤ R * span + E
unfolding vertex_value
inside_right span R D E h = elim (cases_lt (R * span + E) D) [
  | inl far ↦ let none : R * span + E - D ≡ 0 = omega arith in absurd (no_product_right _ _ _ none h)
  | inr near ↦ near
]

-- the lead that puts an axle at v
abbrev pub lead_at : ℕ → ℕ → ℕ → ℤ
lead_at q place v = pos v -ℤ pos (q * place)

pub lead_puts : (q place v : ℕ) → lead_at q place v +ℤ pos (q * place) ≡ pos v
lead_puts q place v = omega (arith, ints)

-- the moment at a run's vertex is at least its value
pub vertex_reaches : (span : ℕ) (axles : List Axle) (k first last : ℕ) → 0 < run_value span axles k first last →
    let R = run_weight axles first last in
    let D = front_in (axle_at axles k).place (run axles first last) in
    let E = back_in (axle_at axles k).place (run axles first last) in
    let v = R * span + D - E in
    (v ≤ 2 * R * span) × (run_value span axles k first last * R ≤ moment_sum (2 * R * span) v (placed (2 * R) (lead_at (2 * R) (axle_at axles k).place v) axles))
unfolding vertex_value
vertex_reaches span axles k first last h =
    let middle = run axles first last in
    let place = (axle_at axles k).place in
    let R = run_weight axles first last in
    let D = front_in place middle in
    let E = back_in place middle in
    let v = R * span + D - E in
    let u = R * span + E - D in
    let left = inside_left span R D E h in
    let right = inside_right span R D E h in
    let both : v + u ≡ 2 * R * span = omega arith in
    let share = share_all (2 * R) v u place middle in
    let true_moment = moment_under (2 * R) (2 * R * span) v u place (lead_at (2 * R) place v) axles both (lead_puts (2 * R) place v) in
    let part = under_run (under_of (2 * R) v u place) axles first (last + 1 - first) in
    let share_sums = rw (total_is weight_of middle, total_is (front_of place) middle, total_is (back_of place) middle) at share in
    (omega arith, lower_from R D E v u _ (omega (arith, share_sums, true_moment, part)))

-- the run of the first axle alone
pub first_weight : (axles : List Axle) → 0 < length axles → run_weight axles 0 0 ≡ (axle_at axles 0).weight
first_weight [] h = absurd (omega arith)
first_weight (a ∷ rest) h = omega arith

front_none : (axles : List Axle) → 0 < length axles → front_in (axle_at axles 0).place (run axles 0 0) ≡ 0
front_none [] h = absurd (omega arith)
front_none (a ∷ rest) h = let zero : a.place - a.place ≡ 0 = omega arith in omega (arith, ap (λ t. a.weight * t) zero)

back_none : (axles : List Axle) → 0 < length axles → back_in (axle_at axles 0).place (run axles 0 0) ≡ 0
back_none [] h = absurd (omega arith)
back_none (a ∷ rest) h = let zero : a.place - a.place ≡ 0 = omega arith in omega (arith, ap (λ t. a.weight * t) zero)

pub first_value : (span : ℕ) (axles : List Axle) → 0 < length axles → run_value span axles 0 0 0 ≡ vertex_value span (axle_at axles 0).weight 0 0
first_value span axles h = rw (first_weight axles h, front_none axles h, back_none axles h) refl

pub alone_some : (span weight : ℕ) → 1 ≤ weight → 1 ≤ span → 0 < vertex_value span weight 0 0
unfolding vertex_value
alone_some span weight h k = let some : 0 < weight * span = mul-pos h k in let both = mul-pos some some in rw (add-zero, sub-zero) (omega arith)
