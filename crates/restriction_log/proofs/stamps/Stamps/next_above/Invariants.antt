use Rattle.std.proofs.Common.{ℕ, ◌≤◌, ◌<◌, ◌-◌, length, get_or}
use Rattle.restriction_log.proofs.stamps.Stamps.next_above.Given as goal

abbrev pub decreases-loop-segment : goal.decreases-loop-segment
decreases-loop-segment l = length l.self - l.segment

abbrev pub invariant-loop-segment : goal.invariant-loop-segment
invariant-loop-segment l = record {
  from : l.from ≤ l.segment;
  passed : (i : ℕ) → l.from ≤ i → i < l.segment → get_or l.self i 0 ≤ l.number;
}
