use Rattle.std.proofs.Common.{◌≤◌, ◌-◌, ◌*◌, length}
use Rattle.snapshot_store.specs.Stores.{state_now}
use Rattle.trip_analysis.proofs.KnownAt.{AreKnownBelow}
use Rattle.trip_analysis.specs.Passing.{TestsAtMost}
use Rattle.trip_analysis.proofs.analyst.Analyst.turn_to.Given as goal

abbrev pub invariant-changed : goal.invariant-changed
invariant-changed g l =
    (l.from ≤ length l.base.roads.segments) × AreKnownBelow l.base (state_now l.last) (state_now l.next) l.from l.self
    × TestsAtMost (length l.base.fleet * l.from) l.fn.steps l.steps

abbrev pub decreases-changed : goal.decreases-changed
decreases-changed g l = length l.base.roads.segments - l.from
