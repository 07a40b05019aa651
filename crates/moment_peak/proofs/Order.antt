-- The tight pairs in the order in which the sweep meets them.
use Rattle.std.proofs.Common.{◌≡◌, ℕ, ◌+◌, ◌-◌, ◌*◌, ◌<◌, ◌≤◌, List, length, arith, inl, inr}
use Rattle.std.proofs.Math.Nat.{mul-le-mul_left}
use Rattle.std.proofs.lemmas.Bool.{cases_lt}
use Rattle.axle_train.specs.declared.axle.Axle.{Axle}
use Rattle.axle_train.specs.Bounds.{IsTrain}
use Rattle.axle_train.specs.Trains.{axle_at, spread}
use Rattle.axle_train.proofs.Places.{place_ordered}
use Rattle.moment_peak.specs.declared.pair.Pair.{Pair}
use Rattle.moment_peak.specs.Pairs.{IsTight, IsPair, IsUpToPair, IsFirstPair, IsNextPair, IsLastPair, IsLastOfRun}
use Rattle.moment_peak.specs.Runs.{run_weight, CanBeOnSpan}
use Rattle.moment_peak.proofs.BestBounds.{run_loaded}
use Rattle.moment_peak.proofs.Pointer.{centre_to}
use Rattle.moment_peak.proofs.Sweep.{one_run}

-- a tight pair whose run is no later than this pair's, or is its run
run_up_to : (span : ℕ) (axles : List Axle) (pair : Pair) (k first last : ℕ) → IsTrain axles → IsPair span axles pair → IsLastOfRun span axles pair → IsTight span axles k first last → first + last ≤ pair.run.first + pair.run.last → IsUpToPair pair k first last
run_up_to span axles pair k first last train p over t h =
    elim (cases_lt (first + last) (pair.run.first + pair.run.last)) [
      | inl earlier ↦ inl earlier
      | inr rest ↦
          let sum : first + last ≡ pair.run.first + pair.run.last = omega arith in
          let one : first ≡ pair.run.first = one_run span axles first last pair.run.first pair.run.last train t.can_be p.on.can_be sum in
          let end : last ≡ pair.run.last = omega arith in
          inr (over k (rw (one, end) at t), one, end)
    ]

-- the next run, where none that can be on the span is between the two
pub run_next : (span : ℕ) (axles : List Axle) (pair next : Pair) → IsTrain axles → IsPair span axles pair → IsLastOfRun span axles pair → IsPair span axles next → pair.axle ≤ next.axle → pair.run.first + pair.run.last < next.run.first + next.run.last → ((first last : ℕ) → CanBeOnSpan span axles first last → pair.run.first + pair.run.last + 1 ≤ first + last → next.run.first + next.run.last ≤ first + last) → ((k : ℕ) → IsTight span axles k next.run.first next.run.last → next.axle ≤ k) → IsNextPair span axles pair next
run_next span axles pair next train p over n no_earlier later none fresh = record {
  is_pair = n;
  axle = no_earlier;
  later = omega arith;
  none_between = λ k first last t upto.
      elim upto [
        | inl earlier ↦ elim (cases_lt (pair.run.first + pair.run.last) (first + last)) [
          | inl later ↦ absurd (omega (arith, none first last t.can_be (omega arith)))
          | inr rest ↦ inl (run_up_to span axles pair k first last train p over t rest)
        ]
        | inr there ↦
            let from = fresh k (rw (there.1, there.2) at t) in
            inr (record { at_axle = omega (arith, there.0); at_first = there.1; at_last = there.2 })
      ];
}

loaded : (span : ℕ) (axles : List Axle) (k first last : ℕ) → IsTrain axles → IsTight span axles k first last → 0 < run_weight axles first last
loaded span axles k first last train t = run_loaded axles k first last train.each t.is_run

-- while the last axle on the span is in front of its middle, and the first at its start, no pair is tight
pub start_first : (span : ℕ) (axles : List Axle) (pair : Pair) → IsTrain axles → IsPair span axles pair → pair.run.first ≡ 0 → pair.axle ≡ 0 → 2 * (axle_at axles pair.run.last).place < span → IsFirstPair span axles pair
start_first span axles pair train p first axle half = λ k f l t upto.
    elim upto [
      | inl earlier ↦
          let R = run_weight axles f l in
          let more : l + 1 ≤ pair.run.last = omega (arith, first, t.can_be.ordered) in
          let ordered = place_ordered axles 0 (l + 1) pair.run.last train.rising more p.on.can_be.within in
          let short : 2 * (axle_at axles (l + 1)).place + 1 ≤ span = omega arith in
          absurd (omega (arith, loaded span axles k f l train t, t.back_off (omega (arith, p.on.can_be.within)), mul-le-mul_left R short))
      | inr there ↦ record { at_axle = omega (arith, there.0, axle); at_first = there.1; at_last = there.2 }
    ]

-- once the train ends on the span and all that is left on it is in its rear half, no pair is tight
pub end_last : (span : ℕ) (axles : List Axle) (pair : Pair) → IsTrain axles → IsPair span axles pair → IsLastOfRun span axles pair → length axles ≤ pair.run.last + 1 → 2 * spread axles pair.run.first pair.run.last < span → IsLastPair span axles pair
end_last span axles pair train p over end half = λ k f l t.
    elim (cases_lt (pair.run.first + pair.run.last) (f + l)) [
      | inr rest ↦ run_up_to span axles pair k f l train p over t rest
      | inl later ↦
          let R = run_weight axles f l in
          let to : l ≤ pair.run.last = omega (arith, t.can_be.within) in
          let off : pair.run.first ≤ f - 1 = omega arith in
          let front = place_ordered axles 0 pair.run.first (f - 1) train.rising off (omega (arith, t.can_be.ordered, t.can_be.within)) in
          let back = place_ordered axles 0 l pair.run.last train.rising to p.on.can_be.within in
          let here = place_ordered axles 0 k l train.rising t.is_run.to t.can_be.within in
          let short : 2 * (axle_at axles l).place + 1 ≤ span + 2 * (axle_at axles (f - 1)).place = omega arith in
          absurd (omega (arith, loaded span axles k f l train t, t.front_off (omega arith), mul-le-mul_left R short, mul-le-mul_left R here, centre_to axles f l train t.can_be.ordered t.can_be.within))
    ]
