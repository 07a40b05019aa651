-- The best of the pairs, one after another.
use Rattle.std.proofs.Common.{◌≡◌, ℕ, ◌+◌, ◌-◌, ◌*◌, ◌<◌, ◌≤◌, ◌^◌, List, take, drop, arith, inl, inr}
use Rattle.std.proofs.Math.Nat.{mul-pos, mul-le-mul_left}
use Rattle.axle_train.specs.declared.axle.Axle.{Axle}
use Rattle.axle_train.specs.Bounds.{IsTrain}
use Rattle.axle_train.specs.Trains.{axle_at}
use Rattle.moment_peak.specs.declared.best.Candidate.{Candidate}
use Rattle.moment_peak.specs.declared.pair.Pair.{Pair}
use Rattle.moment_peak.specs.Candidates.{IsAttained, IsValueOf}
use Rattle.moment_peak.specs.Centres.{IsNoBetter}
use Rattle.moment_peak.specs.Pairs.{weight_to, IsTight, IsPair, IsThisPair, IsUpToPair, IsFirstPair, IsNextPair}
use Rattle.moment_peak.specs.Runs.{run_value, run_weight, run_moment, moment_in, IsRunWith}
use Rattle.moment_peak.specs.Sweeps.{IsSummed, IsOnSpan}
use Rattle.moment_peak.proofs.BestBounds.{run_loaded}
use Rattle.moment_peak.proofs.OneCentre.{summed_loaded}
use Rattle.moment_peak.proofs.Pointer.{centre_to}
use Rattle.moment_peak.proofs.RunSums.{sum_none}
use Rattle.moment_peak.proofs.Runs.{weight_of}
use Rattle.moment_peak.proofs.Ties.{met_by_itself}
use Rattle.moment_peak.proofs.Tight.{parts_of}

pub on_summed : (span : ℕ) (axles : List Axle) (best : Candidate) → IsOnSpan span axles best.run → IsSummed axles best.run
on_summed span axles best on = record { ordered = on.can_be.ordered; within = on.can_be.within; sums = on.sums }

pub value_summed : (span : ℕ) (axles : List Axle) (pair : Pair) (found : Candidate) → IsPair span axles pair → IsValueOf span axles pair found → IsSummed axles found.run
value_summed span axles pair found p v = rw v.run (record { ordered = p.on.can_be.ordered; within = p.on.can_be.within; sums = p.on.sums })

-- a pair's candidate is attained
pub attained_of : (span : ℕ) (axles : List Axle) (pair : Pair) (found : Candidate) → IsTrain axles → IsPair span axles pair → IsValueOf span axles pair found → found.value < 2 ^ 72 → 0 < found.value → IsAttained span axles found
attained_of span axles pair found train p v small some = record {
  on = rw v.run p.on;
  is_run = rw (v.run, v.axle) (record { from = p.from; to = p.to; within = p.on.can_be.within });
  value = rw (v.run, v.axle) v.value;
  some = some;
  loaded = summed_loaded axles found.run train (value_summed span axles pair found p v);
  small = small;
}

-- the pair itself is no better than what is no worse than its candidate
itself : (span : ℕ) (axles : List Axle) (pair : Pair) (found result : Candidate) (k first last : ℕ) → IsPair span axles pair → IsValueOf span axles pair found → IsNoBetter axles result found.value found.run.sums.weight found.axle found.run.first found.run.last → IsThisPair pair k first last → IsNoBetter axles result (run_value span axles k first last) (run_weight axles first last) k first last
itself span axles pair found result k first last p v met there = rw (there.at_axle, there.at_first, there.at_last) (rw (v.value, v.axle, v.run, p.on.sums.weight) at met)

-- the first pair
pub best_start : (span : ℕ) (axles : List Axle) (pair : Pair) (found : Candidate) → IsTrain axles → IsPair span axles pair → IsValueOf span axles pair found → IsFirstPair span axles pair → (k first last : ℕ) → IsTight span axles k first last → IsUpToPair pair k first last → IsNoBetter axles found (run_value span axles k first last) (run_weight axles first last) k first last
best_start span axles pair found train p v is_first k first last t upto =
    itself span axles pair found found k first last p v (met_by_itself axles found train (value_summed span axles pair found p v)) (is_first k first last t upto)

-- the next pair joins those before
pub best_more : (span : ℕ) (axles : List Axle) (pair next : Pair) (best found result : Candidate) → IsTrain axles → IsNextPair span axles pair next → ((k first last : ℕ) → IsTight span axles k first last → IsUpToPair pair k first last → IsNoBetter axles best (run_value span axles k first last) (run_weight axles first last) k first last) → ((v w k first last : ℕ) → 0 < w → IsNoBetter axles best v w k first last → IsNoBetter axles result v w k first last) → IsValueOf span axles next found → IsNoBetter axles result found.value found.run.sums.weight found.axle found.run.first found.run.last → (k first last : ℕ) → IsTight span axles k first last → IsUpToPair next k first last → IsNoBetter axles result (run_value span axles k first last) (run_weight axles first last) k first last
best_more span axles pair next best found result train is_next before kept v met k first last t upto =
    elim (is_next.none_between k first last t upto) [
      | inl earlier ↦ kept (run_value span axles k first last) (run_weight axles first last) k first last (run_loaded axles k first last train.each t.is_run) (before k first last t earlier)
      | inr there ↦ itself span axles next found result k first last is_next.is_pair v met there
    ]

square_some : (R L p S a F T V : ℕ) → 0 < R → S ≤ R * p → 2 * p < L → R * L ≤ a + S → F + T ≡ 0 → a * a ≤ V + 4 * (R * L) * F → 0 < V
square_some R L p S a F T V loaded most half place none square =
    let near : R * (2 * p + 1) ≤ R * L = mul-le-mul_left R (let next : 2 * p + 1 ≤ L = omega arith in next) in
    let some : 0 < a = omega (arith, near, most, loaded, place) in
    let no_front : F ≡ 0 = omega (arith, none) in
    omega (arith, mul-pos some some, rw no_front at square)

-- the first pair has a moment
pub start_some : (span : ℕ) (axles : List Axle) (pair : Pair) (found : Candidate) → IsTrain axles → IsPair span axles pair → IsValueOf span axles pair found → pair.run.first ≡ 0 → pair.axle ≡ 0 → 2 * (axle_at axles pair.run.last).place < span → 0 < found.value
start_some span axles pair found train p v first axle half =
    let f = pair.run.first in
    let l = pair.run.last in
    let is_run : IsRunWith axles pair.axle f l = record { from = p.from; to = p.to; within = p.on.can_be.within } in
    let s = parts_of span axles pair.axle f l train is_run p.on.can_be in
    let same : pair.axle ≡ f = omega (arith, first, axle) in
    let none : weight_to axles f pair.axle ≡ 0 = rw same (sum_none weight_of axles f) in
    let off : s.front + moment_in (take (pair.axle - f) (drop f axles)) ≡ 0 = omega (arith, rw none at s.off) in
    rw v.value (square_some (run_weight axles f l) span (axle_at axles l).place (run_moment axles f l) s.a s.front (moment_in (take (pair.axle - f) (drop f axles))) (run_value span axles pair.axle f l)
    (run_loaded axles pair.axle f l train.each is_run) (centre_to axles f l train p.on.can_be.ordered p.on.can_be.within) half (omega (arith, s.place)) off s.most)
