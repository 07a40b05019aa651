-- The value of a run by the sums that the program carries.
use Rattle.std.proofs.Common.{◌≡◌, ℕ, ◌+◌, ◌-◌, ◌*◌, ◌<◌, ◌≤◌, List, length, take, drop, arith, refl, ap, sym, ◌∙◌, length-drop, get_or-drop}
use Rattle.axle_train.specs.declared.axle.Axle.{Axle}
use Rattle.axle_train.specs.Bounds.{IsTrain}
use Rattle.axle_train.specs.Trains.{axle_at}
use Rattle.axle_train.proofs.Places.{place_ordered}
use Rattle.influence_line.proofs.Totals.{total, total_is, total-append}
use Rattle.moment_peak.specs.declared.pair.Pair.{Pair}
use Rattle.moment_peak.specs.declared.run.Sums.{Sums}
use Rattle.moment_peak.specs.Runs.{run, weight_in, moment_in, front_in, back_in, run_weight, run_moment, run_value, vertex_value, IsRunWith, CanBeOnSpan}
use Rattle.moment_peak.specs.Sweeps.{AreSums}
use Rattle.moment_peak.specs.Candidates.{value_by_sums}
use Rattle.moment_peak.specs.Pairs.{IsPair}
use Rattle.moment_peak.proofs.Runs.{weight_of, moment_of, front_of, back_of, balance}
use Rattle.moment_peak.proofs.Between.{rises_on, all_from, all_up_to, all_take, no_front, no_back, front_most, back_most, run_parts, IsFrom}

-- two ways to write a vertex's value; H is weight times span
two_ways : (H D E v u : ℕ) → v + E ≡ H + D → u + D ≡ H + E → v * u - 2 * (D * u + E * v) ≡ v * v - 4 * H * D
two_ways H D E v u h k =
    let sum : v * u + 4 * H * D ≡ v * v + 2 * (D * u + E * v) = omega (arith, ap (λ t. v * t) h, ap (λ t. v * t) k, ap (λ t. D * t) h, ap (λ t. D * t) k) in
    omega arith

-- v is where the axle stands, R * (L + p) - S
by_sums : (R L D E S p B T : ℕ) → D + S ≡ E + R * p → D + T ≡ B * p → E ≤ R * L + D → D ≤ R * L + E → vertex_value L R D E ≡ (R * (L + p) - S) * (R * (L + p) - S) - 4 * (R * L) * (B * p - T)
unfolding vertex_value
by_sums R L D E S p B T whole front left right =
    let v = R * L + D - E in
    let u = R * L + E - D in
    let at : R * (L + p) - S ≡ v = omega arith in
    let off : B * p - T ≡ D = omega arith in
    rw (at, off) (two_ways (R * L) D E v u (omega arith) (omega arith))

-- the axles of a run that can be on the span are within the span of each of them
pub record AreNear (span : ℕ) (axles : List Axle) (k first last : ℕ) : Type 0 where
  pub front : front_in (axle_at axles k).place (run axles first last) ≤ run_weight axles first last * span
  pub back : back_in (axle_at axles k).place (run axles first last) ≤ run_weight axles first last * span

pub are_near : (span : ℕ) (axles : List Axle) (k first last : ℕ) → IsTrain axles → IsRunWith axles k first last → CanBeOnSpan span axles first last → AreNear span axles k first last
are_near span axles k first last train is_run can =
    let p = (axle_at axles k).place in
    let middle = run axles first last in
    let within : first < length axles = omega (arith, can.ordered, can.within) in
    let behind = place_ordered axles 0 first k train.rising is_run.from (omega (arith, is_run.to, is_run.within)) in
    let ahead = place_ordered axles 0 k last train.rising is_run.to is_run.within in
    let rises = rises_on axles 0 first train.rising within in
    let from = all_take (IsFrom (axle_at axles first).place) (last + 1 - first) (drop first axles) (all_from (drop first axles) (axle_at axles first).place rises) in
    let here : first + (last - first) ≡ last = omega (arith, can.ordered) in
    let end : (axle_at (drop first axles) (last - first)).place ≡ (axle_at axles last).place = rw (get_or-drop, here) refl in
    let up = all_up_to (drop first axles) (axle_at axles first).place (last + 1 - first) (last - first) rises (omega arith) (omega (arith, length-drop first axles, can.within, can.ordered)) in
    let front = front_most p (axle_at axles first).place span middle from (omega (arith, can.fits, ahead)) in
    let back = back_most p (axle_at (drop first axles) (last - first)).place span middle up (omega (arith, can.fits, behind, end)) in
    record {
      front = rw (← total_is (front_of p) middle, ← total_is weight_of middle) front;
      back = rw (← total_is (back_of p) middle, ← total_is weight_of middle) back;
    }

-- what the axles in front of one take off, by the sums of those before it
pub front_by_sums : (axles : List Axle) (k first last : ℕ) → IsTrain axles → IsRunWith axles k first last → front_in (axle_at axles k).place (run axles first last) + moment_in (take (k - first) (drop first axles)) ≡ weight_in (take (k - first) (drop first axles)) * (axle_at axles k).place
front_by_sums axles k first last train is_run =
    let p = (axle_at axles k).place in
    let before = take (k - first) (drop first axles) in
    let on = run axles k last in
    let within : k < length axles = omega (arith, is_run.to, is_run.within) in
    let none = no_front p on (all_take (IsFrom p) (last + 1 - k) (drop k axles) (all_from (drop k axles) p (rises_on axles 0 k train.rising within))) in
    let here : first + (k - first) ≡ k = omega (arith, is_run.from) in
    let end : (axle_at (drop first axles) (k - first)).place ≡ p = rw (get_or-drop, here) refl in
    let up = all_up_to (drop first axles) (axle_at axles first).place (k - first) (k - first) (rises_on axles 0 first train.rising (omega (arith, is_run.from, within))) (omega arith) (omega (arith, length-drop first axles, within, is_run.from)) in
    let clear = no_back p before (rw end at up) in
    let parts = ap (total (front_of p)) (run_parts axles first k last is_run.from is_run.to) ∙ total-append (front_of p) before on in
    let sums : total (front_of p) (run axles first last) + total moment_of before ≡ total weight_of before * p = omega (arith, parts, none, balance p before, clear) in
    rw (← total_is (front_of p) (run axles first last), ← total_is moment_of before, ← total_is weight_of before) sums

-- the sums about a place, and about the train's first axle
pub balance_in : (p : ℕ) (middle : List Axle) → front_in p middle + moment_in middle ≡ back_in p middle + weight_in middle * p
balance_in p middle = rw (← total_is (front_of p) middle, ← total_is moment_of middle, ← total_is (back_of p) middle, ← total_is weight_of middle) (balance p middle)

-- the program's sums and the value that it makes of them
pub record BySums (span : ℕ) (axles : List Axle) (k first last : ℕ) (whole before : Sums) : Type 0 where
  pub left : whole.moment ≤ whole.weight * (span + (axle_at axles k).place)
  pub front : before.moment ≤ before.weight * (axle_at axles k).place
  pub value : value_by_sums span whole before (axle_at axles k).place ≡ run_value span axles k first last

pub value_is : (span : ℕ) (axles : List Axle) (k first last : ℕ) (whole before : Sums) → IsTrain axles → IsRunWith axles k first last → CanBeOnSpan span axles first last → AreSums axles first (last + 1) whole → AreSums axles first k before → BySums span axles k first last whole before
value_is span axles k first last whole before train is_run can w b =
    let p = (axle_at axles k).place in
    let middle = run axles first last in
    let near = are_near span axles k first last train is_run can in
    let balanced = balance_in p middle in
    let front = front_by_sums axles k first last train is_run in
    record {
      left = rw (w.moment, w.weight) (omega (arith, balanced, near.back));
      front = rw (b.moment, b.weight) (omega (arith, front));
      value = rw (w.moment, w.weight, b.moment, b.weight) (sym (by_sums (run_weight axles first last) span (front_in p middle) (back_in p middle) (run_moment axles first last) p (weight_in (take (k - first) (drop first axles))) (moment_in (take (k - first) (drop first axles))) balanced front (omega (arith, near.back)) (omega (arith, near.front))));
    }

pub by_pair : (span : ℕ) (axles : List Axle) (pair : Pair) → IsTrain axles → IsPair span axles pair → BySums span axles pair.axle pair.run.first pair.run.last pair.run.sums pair.before
by_pair span axles pair train p =
    value_is span axles pair.axle pair.run.first pair.run.last pair.run.sums pair.before train (record { from = p.from; to = p.to; within = p.on.can_be.within }) p.on.can_be p.on.sums p.before
