use Rattle.std.proofs.Common.{◌≤◌, ◌-◌, length}
use Rattle.restriction_log.specs.States.{base_of}
use Rattle.snapshot_store.specs.Stores.{state_now}
use Rattle.trip_analysis.proofs.Turning.{AreTurnedBelow}
use Rattle.trip_analysis.specs.Passing.{TestsAtMost}
use Rattle.trip_analysis.proofs.truck_at.TruckAt.flags.Given as goal

abbrev pub invariant-posted : goal.invariant-posted
invariant-posted g l = record {
  within : l.from ≤ length l.self.base.now.roads.segments;
  flags : AreTurnedBelow l.self.base.now (base_of l.self.base.now.roads) (state_now l.self.snapshot.now) l.self.truck l.from l.flags.items;
  steps : TestsAtMost l.from l.fn.steps l.steps;
}

abbrev pub decreases-posted : goal.decreases-posted
decreases-posted g l = length l.self.base.now.roads.segments - l.from
