-- A peak moment is that of a tight pair, and each vertex that reaches it is of one.
use Rattle.std.proofs.Common.{◌≡◌, ℕ, ◌+◌, ◌-◌, ◌*◌, ◌<◌, ◌≤◌, List, length, take, drop, arith, ap, refl, ℤ, inl, inr}
use Rattle.std.proofs.Math.Nat.{mul-le-mul_left, mul-le-mul_right, le_of_mul-le-mul_left, le_of_mul-le-mul_right, le_antisymm, eq_of_mul-eq-mul_right, mul-pos}
use Rattle.std.proofs.lemmas.Bool.{cases_lt}
use Rattle.std.proofs.lemmas.Int.{ints}
use Rattle.axle_train.specs.declared.axle.Axle.{Axle}
use Rattle.axle_train.specs.Bounds.{IsTrain}
use Rattle.axle_train.specs.Trains.{axle_at}
use Rattle.axle_train.proofs.Places.{place_rises, axle_fits}
use Rattle.influence_line.specs.Peaks.{IsPeakMoment, IsTrainPlaced}
use Rattle.influence_line.specs.Placed.{moment_sum, placed}
use Rattle.influence_line.specs.Spans.{IsSpanLength}
use Rattle.influence_line.proofs.Totals.{total, total_is}
use Rattle.moment_peak.specs.declared.best.Candidate.{Candidate}
use Rattle.moment_peak.specs.declared.run.Sums.{Sums}
use Rattle.moment_peak.specs.Candidates.{IsAtPeak, IsAttained}
use Rattle.moment_peak.specs.Centres.{IsFirstBestPair}
use Rattle.moment_peak.specs.Pairs.{far_support, weight_to, IsTight}
use Rattle.moment_peak.specs.PeakMoment.{peak_moment_of}
use Rattle.moment_peak.specs.Runs.{run, vertex_value, front_in, back_in, run_weight, run_moment, run_value, weight_in, moment_in, IsRunWith, CanBeOnSpan}
use Rattle.moment_peak.proofs.Bound.{BelowVertex, SomeVertex, below_some_vertex}
use Rattle.moment_peak.proofs.BestBounds.{below_value, run_loaded, first_value, alone_some}
use Rattle.moment_peak.proofs.BySums.{value_is, balance_in}
use Rattle.moment_peak.proofs.Exchange.{shear_to, shear_from}
use Rattle.moment_peak.proofs.PeakOfPlaces.{value_under, same_value, peak_moment_is}
use Rattle.moment_peak.proofs.RunSums.{are_sums, sum_more, sum_none}
use Rattle.moment_peak.proofs.Runs.{weight_of, moment_of, front_of, back_of}

-- the far support is no nearer than the place y of the train, where axle k at place p stands at x
far_from : (q R L p x S v y : ℕ) → 0 < q → v + S ≡ R * L + R * p → q * v ≡ 2 * R * x → q * y + x ≤ q * L + q * p → 2 * (R * y) ≤ R * (L + p) + S
far_from q R L p x S v y some e only h =
    le_of_mul-le-mul_left {m = 2 * (R * y)} {n = R * (L + p) + S} {k = q} (omega (arith, ap (λ t. q * t) e, only, mul-le-mul_left (2 * R) h)) some

-- or no further
far_to : (q R L p x S v y : ℕ) → 0 < q → v + S ≡ R * L + R * p → q * v ≡ 2 * R * x → q * L + q * p ≤ q * y + x → R * (L + p) + S ≤ 2 * (R * y)
far_to q R L p x S v y some e only h =
    le_of_mul-le-mul_left {m = R * (L + p) + S} {n = 2 * (R * y)} {k = q} (omega (arith, ap (λ t. q * t) e, only, mul-le-mul_left (2 * R) h)) some

-- no value of a run is above a peak
value_peak : (axles : List Axle) (span n d : ℕ) → 1 ≤ span → IsTrain axles → IsPeakMoment (IsTrainPlaced axles) span n d → (k first last : ℕ) → IsRunWith axles k first last → run_value span axles k first last * d ≤ n * (4 * run_weight axles first last * span)
value_peak axles span n d some train peak k first last is_run =
    value_under axles span some train n d (λ q section lead scale on _. peak.greatest q section (placed q lead axles) scale on (lead, refl)) k first last is_run

-- the sums of a run's axles before one
abbrev sums_to : List Axle → ℕ → ℕ → Sums
sums_to axles first end = record { weight = weight_in (take (end - first) (drop first axles)); moment = moment_in (take (end - first) (drop first axles)) }

-- the numbers of a value: where the axle stands at the vertex, times twice the weight, and what the axles in front take off
pub record Parts (span : ℕ) (axles : List Axle) (k first last : ℕ) : Type 0 where
  pub a : ℕ
  pub front : ℕ
  pub place : a + run_moment axles first last ≡ run_weight axles first last * (span + (axle_at axles k).place)
  pub off : front + moment_in (take (k - first) (drop first axles)) ≡ weight_to axles first k * (axle_at axles k).place
  pub most : a * a ≤ run_value span axles k first last + 4 * (run_weight axles first last * span) * front
  pub exact : 0 < run_value span axles k first last → run_value span axles k first last + 4 * (run_weight axles first last * span) * front ≡ a * a

pub parts_of : (span : ℕ) (axles : List Axle) (k first last : ℕ) → IsTrain axles → IsRunWith axles k first last → CanBeOnSpan span axles first last → Parts span axles k first last
parts_of span axles k first last train is_run can =
    let whole = sums_to axles first (last + 1) in
    let before = sums_to axles first k in
    let p = (axle_at axles k).place in
    let s = value_is span axles k first last whole before train is_run can (are_sums axles first (last + 1) whole train refl refl) (are_sums axles first k before train refl refl) in
    let a = run_weight axles first last * (span + p) - run_moment axles first last in
    let F = weight_to axles first k * p - moment_in (take (k - first) (drop first axles)) in
    let value : a * a - 4 * (run_weight axles first last * span) * F ≡ run_value span axles k first last = s.value in
    record {
      a = a;
      front = F;
      place = omega (arith, s.left);
      off = omega (arith, s.front);
      most = omega (arith, value);
      exact = λ some. omega (arith, value, some);
    }

-- where no axle of a run has a greater value, the shear passes 0 under this one
module _ (span : ℕ) (axles : List Axle) (k first last : ℕ) (train : IsTrain axles) (is_run : IsRunWith axles k first last) (can : CanBeOnSpan span axles first last) (some : 0 < run_value span axles k first last) where
  to_behind : k < last → run_value span axles (k + 1) first last ≤ run_value span axles k first last → far_support span axles k first last < 2 * (span * weight_to axles first (k + 1) + run_moment axles first last)
  to_behind less h =
      let behind : IsRunWith axles (k + 1) first last = record { from = omega (arith, is_run.from); to = omega arith; within = is_run.within } in
      let here = parts_of span axles k first last train is_run can in
      let there = parts_of span axles (k + 1) first last train behind can in
      let within : k < length axles = omega (arith, is_run.within) in
      let w = (axle_at axles k).weight in
      let p = (axle_at axles k).place in
      let rises = place_rises axles 0 k (k + 1) train.rising (omega arith) (omega (arith, is_run.within)) in
      let d = (axle_at axles (k + 1)).place - p in
      let apart : p + d ≡ (axle_at axles (k + 1)).place = omega (arith, rises) in
      let weight : weight_to axles first (k + 1) ≡ weight_to axles first k + w = sum_more weight_of axles first k is_run.from within in
      let moment : moment_in (take (k + 1 - first) (drop first axles)) ≡ moment_in (take (k - first) (drop first axles)) + w * p = sum_more moment_of axles first k is_run.from within in
      rw weight (shear_to (run_weight axles first last) span p d (run_moment axles first last) (weight_to axles first k) (moment_in (take (k - first) (drop first axles))) w here.a here.front there.a there.front (run_value span axles k first last) (run_value span axles (k + 1) first last)
      (run_loaded axles k first last train.each is_run) (omega (arith, rises)) here.place here.off (rw apart there.place) (rw (apart, ← moment, ← weight) there.off) (here.exact some) there.most h)

  to_front : first < k → run_value span axles (k - 1) first last ≤ run_value span axles k first last → 2 * (span * weight_to axles first k + run_moment axles first last) ≤ far_support span axles k first last
  to_front more h =
      let front : IsRunWith axles (k - 1) first last = record { from = omega arith; to = omega (arith, is_run.to); within = is_run.within } in
      let here = parts_of span axles k first last train is_run can in
      let there = parts_of span axles (k - 1) first last train front can in
      let within : k - 1 < length axles = omega (arith, is_run.to, is_run.within) in
      let w = (axle_at axles (k - 1)).weight in
      let p = (axle_at axles (k - 1)).place in
      let next : k - 1 + 1 ≡ k = omega arith in
      let rises = place_rises axles 0 (k - 1) k train.rising (omega arith) (omega (arith, is_run.to, is_run.within)) in
      let d = (axle_at axles k).place - p in
      let apart : p + d ≡ (axle_at axles k).place = omega (arith, rises) in
      let weight : weight_to axles first k ≡ weight_to axles first (k - 1) + w = rw next at (sum_more weight_of axles first (k - 1) (omega arith) within) in
      let moment : moment_in (take (k - first) (drop first axles)) ≡ moment_in (take (k - 1 - first) (drop first axles)) + w * p = rw next at (sum_more moment_of axles first (k - 1) (omega arith) within) in
      rw (weight, ← apart) (shear_from (run_weight axles first last) span p d (run_moment axles first last) (weight_to axles first (k - 1)) (moment_in (take (k - 1 - first) (drop first axles))) w there.a there.front here.a here.front (run_value span axles (k - 1) first last) (run_value span axles k first last)
      (run_loaded axles k first last train.each is_run) (omega (arith, rises)) there.place there.off (rw apart here.place) (rw (apart, ← moment, ← weight) here.off) there.most (here.exact some) h)

-- it is reached only where the axle stands at the run's vertex
only_by_totals : (q span m x place : ℕ) (middle : List Axle) → BelowVertex q span m x place middle → 0 < m → 4 * total weight_of middle * m ≡ q * q * vertex_value span (total weight_of middle) (total (front_of place) middle) (total (back_of place) middle) → (v : ℕ) → v + total (back_of place) middle ≡ total weight_of middle * span + total (front_of place) middle → q * v ≡ 2 * total weight_of middle * x
unfolding vertex_value
only_by_totals q span m x place middle b some same v e =
    let R = total weight_of middle in
    let D = total (front_of place) middle in
    let E = total (back_of place) middle in
    let there = b.only (R * span + D - E) (R * span + E - D) (omega (arith, b.left_in)) (omega (arith, b.right_in)) some same in
    let here : v ≡ R * span + D - E = omega (arith, e) in
    rw here there

only_at : (q span m x place : ℕ) (middle : List Axle) → BelowVertex q span m x place middle → 0 < m → 4 * weight_in middle * m ≡ q * q * vertex_value span (weight_in middle) (front_in place middle) (back_in place middle) → (v : ℕ) → v + back_in place middle ≡ weight_in middle * span + front_in place middle → q * v ≡ 2 * weight_in middle * x
only_at q span m x place middle b some same v e =
    rw (← total_is weight_of middle) (only_by_totals q span m x place middle b some (rw (total_is weight_of middle, total_is (front_of place) middle, total_is (back_of place) middle) same) v (rw (total_is weight_of middle, total_is (front_of place) middle, total_is (back_of place) middle) e))

pub section_from : (R span D E S p v : ℕ) → v + E ≡ R * span + D → D + S ≡ E + R * p → v + S ≡ R * span + R * p
section_from R span D E S p v h k = omega arith

some_by : (R m Q V : ℕ) → 4 * R * m ≡ Q * V → 0 < R → 0 < m → 0 < V
some_by R m Q V e loaded some =
    elim (cases_lt 0 V) [
      | inl high ↦ high
      | inr none ↦ (let zero : V ≡ 0 = omega arith in absurd (omega (arith, rw zero at e, mul-pos loaded some)))
    ]

-- where a peak is reached a tight pair is at its vertex, with that value
pub record PeakAt (span : ℕ) (axles : List Axle) (num den q x k first last : ℕ) : Type 0 where
  pub tight : IsTight span axles k first last
  pub exact : num * (4 * run_weight axles first last * span) ≡ run_value span axles k first last * den
  pub v : ℕ
  pub section : v + run_moment axles first last ≡ run_weight axles first last * span + run_weight axles first last * (axle_at axles k).place
  pub only : q * v ≡ 2 * run_weight axles first last * x

module _ (axles : List Axle) (span num den : ℕ) (some : 1 ≤ span) (train : IsTrain axles) (peak : IsPeakMoment (IsTrainPlaced axles) span num den) where
  -- a run's value under another axle is no greater than one that is the peak
  no_greater : (k first last : ℕ) → IsRunWith axles k first last → (v : ℕ) → num * (4 * run_weight axles first last * span) ≡ v * den → run_value span axles k first last ≤ v
  no_greater k first last is_run v exact =
      le_of_mul-le-mul_right {m = run_value span axles k first last} {n = v} {k = den} (omega (arith, value_peak axles span num den some train peak k first last is_run, exact)) peak.some

  shear_from_of : (k first last : ℕ) → IsRunWith axles k first last → CanBeOnSpan span axles first last → 0 < run_value span axles k first last → num * (4 * run_weight axles first last * span) ≡ run_value span axles k first last * den → 2 * (span * weight_to axles first k + run_moment axles first last) ≤ far_support span axles k first last
  shear_from_of k first last is_run can high exact =
      elim (cases_lt first k) [
        | inl behind ↦
            let front : IsRunWith axles (k - 1) first last = record { from = omega arith; to = omega (arith, is_run.to); within = is_run.within } in
            to_front span axles k first last train is_run can high behind (no_greater (k - 1) first last front (run_value span axles k first last) exact)
        | inr begin ↦
            let same : k ≡ first = omega (arith, is_run.from) in
            let none : weight_to axles first k ≡ 0 = rw same (sum_none weight_of axles first) in
            rw none (omega (arith, (parts_of span axles k first last train is_run can).place))
      ]

  shear_to_of : (k first last : ℕ) → IsRunWith axles k first last → CanBeOnSpan span axles first last → 0 < run_value span axles k first last → num * (4 * run_weight axles first last * span) ≡ run_value span axles k first last * den → k < last → far_support span axles k first last < 2 * (span * weight_to axles first (k + 1) + run_moment axles first last)
  shear_to_of k first last is_run can high exact less =
      let behind : IsRunWith axles (k + 1) first last = record { from = omega (arith, is_run.from); to = omega arith; within = is_run.within } in
      to_behind span axles k first last train is_run can high less (no_greater (k + 1) first last behind (run_value span axles k first last) exact)

  pub peak_at : (q m x : ℕ) (lead : ℤ) → 1 ≤ q → 0 < m → m * den ≡ num * (q * q * span) → (s : SomeVertex q span m x lead axles) → PeakAt span axles num den q x s.k s.first s.last
  peak_at q m x lead scale high reached s =
      let p = (axle_at axles s.k).place in
      let middle = run axles s.first s.last in
      let R = run_weight axles s.first s.last in
      let S = run_moment axles s.first s.last in
      let V = run_value span axles s.k s.first s.last in
      let D = front_in p middle in
      let E = back_in p middle in
      let under : 4 * R * m ≤ q * q * V = below_value q span m x p middle s.below in
      let exact : num * (4 * R * span) ≡ V * den = same_value R q m V num den span scale reached under (value_peak axles span num den some train peak s.k s.first s.last s.is_run) in
      let same : 4 * R * m ≡ q * q * V = eq_of_mul-eq-mul_right den peak.some (4 * R * m) (q * q * V) (omega (arith, ap (λ t. 4 * R * t) reached, ap (λ t. q * q * t) exact)) in
      let loaded : 0 < R = run_loaded axles s.k s.first s.last train.each s.is_run in
      let value : 0 < V = some_by R m (q * q) V same loaded high in
      let left : E ≤ R * span + D = rw (total_is (back_of p) middle, total_is weight_of middle, total_is (front_of p) middle) at s.below.left_in in
      let v = R * span + D - E in
      let v_at : v + E ≡ R * span + D = omega arith in
      let section : v + S ≡ R * span + R * p = section_from R span D E S p v v_at (balance_in p middle) in
      let only : q * v ≡ 2 * R * x = only_at q span m x p middle s.below high same v v_at in
      record {
        tight = record {
          is_run = s.is_run;
          can_be = s.can_be;
          last_on = far_from q R span p x S v (axle_at axles s.last).place scale section only (omega (arith, ints, s.stands, s.alone.last_on.1, s.alone.last_on.2));
          front_off = λ more. far_from q R span p x S v ((axle_at axles (s.first - 1)).place + span) scale section only (let off = s.alone.front_off more in omega (arith, ints, s.stands, off.1));
          first_on = far_to q R span p x S v ((axle_at axles s.first).place + span) scale section only (omega (arith, ints, s.stands, s.alone.first_on.1));
          back_off = λ more. far_to q R span p x S v (axle_at axles (s.last + 1)).place scale section only (let off = s.alone.back_off more in omega (arith, ints, s.stands, off.1, off.2));
          shear_from = shear_from_of s.k s.first s.last s.is_run s.can_be value exact;
          shear_to = shear_to_of s.k s.first s.last s.is_run s.can_be value exact;
        };
        exact = exact;
        v = v;
        section = section;
        only = only;
      }

  -- a train has a moment
  peak_some : 0 < num
  peak_some =
      let any : 0 < length axles = omega (arith, train.many) in
      let is_run : IsRunWith axles 0 0 0 = record { from = omega arith; to = omega arith; within = any } in
      let heavy : 1 ≤ (axle_at axles 0).weight = (axle_fits axles 0 train.each any).1 in
      let alone : 0 < run_value span axles 0 0 0 = rw (first_value span axles any) (alone_some span (axle_at axles 0).weight heavy some) in
      elim (cases_lt 0 num) [
        | inl high ↦ high
        | inr none ↦
            let zero : num ≡ 0 = omega arith in
            absurd (omega (arith, mul-pos alone peak.some, rw zero at (value_peak axles span num den some train peak 0 0 0 is_run)))
      ]

  pub moment_some : (m Q : ℕ) → m * den ≡ num * Q → 0 < Q → 0 < m
  moment_some m Q e some_q =
      elim (cases_lt 0 m) [
        | inl high ↦ high
        | inr none ↦ (let zero : m ≡ 0 = omega arith in absurd (omega (arith, rw zero at e, mul-pos peak_some some_q)))
      ]

-- a tight pair whose value is the peak
pub record PeakPair (span : ℕ) (axles : List Axle) (num den : ℕ) : Type 0 where
  pub k : ℕ
  pub first : ℕ
  pub last : ℕ
  pub tight : IsTight span axles k first last
  pub exact : num * (4 * run_weight axles first last * span) ≡ run_value span axles k first last * den

-- each peak has one
pub peak_pair : (axles : List Axle) (span num den : ℕ) → 1 ≤ span → IsTrain axles → IsPeakMoment (IsTrainPlaced axles) span num den → PeakPair span axles num den
peak_pair axles span num den some train peak =
    let r = peak.reached in
    let lead = r.5.0 in
    let m = moment_sum (r.0 * span) r.1 (placed r.0 lead axles) in
    let reached : m * den ≡ num * (r.0 * r.0 * span) = rw r.5.1 at r.6 in
    let high : 0 < m = moment_some axles span num den some train peak m (r.0 * r.0 * span) reached (mul-pos (mul-pos r.3 r.3) some) in
    elim (below_some_vertex r.0 span r.1 lead axles r.3 train.rising r.4) [
      | inl none ↦ absurd (omega (arith, none, high))
      | inr found ↦
          let s = found.1 in
          let p = peak_at axles span num den some train peak r.0 m found.0 lead r.3 high reached s in
          record { k = s.k; first = s.first; last = s.last; tight = p.tight; exact = p.exact }
    ]

-- what no tight pair is better than is at the peak
pub best_at_peak : (span : ℕ) (axles : List Axle) (best : Candidate) → IsSpanLength span → IsTrain axles → IsAttained span axles best → IsFirstBestPair span axles best → IsAtPeak span axles best
best_at_peak span axles best sized train a is_first =
    let moment = peak_moment_of axles span in
    let peak = (peak_moment_is axles span train sized).0 in
    let there = peak_pair axles span moment.num moment.den sized.0 train peak in
    let W = run_weight axles there.first there.last in
    let R = best.run.sums.weight in
    let most : best.value * moment.den ≤ moment.num * (4 * R * span) = rw (a.value, a.on.sums.weight) (value_peak axles span moment.num moment.den sized.0 train peak best.axle best.run.first best.run.last a.is_run) in
    let no_more = (is_first there.k there.first there.last there.tight).most in
    let least : moment.num * (4 * R * span) ≤ best.value * moment.den = le_of_mul-le-mul_right {m = moment.num * (4 * R * span)} {n = best.value * moment.den} {k = W} (omega (arith, ap (λ t. R * t) there.exact, mul-le-mul_right moment.den no_more)) (run_loaded axles there.k there.first there.last train.each there.tight.is_run) in
    le_antisymm least most
