use Rattle.std.proofs.Common.{◌≡◌, map}
use Rattle.std.specs.List.{range_with_len}
use Rattle.trip_analysis.specs.Passing.{TestsAtMost, is_passable}
use Rattle.trip_analysis.proofs.truck_on.TruckOn.flags.Given as goal

abbrev pub invariant-loop-segment : goal.invariant-loop-segment
invariant-loop-segment g l = record {
  flags : l.flags.items ≡ map (is_passable l.self.base.now l.self.state.now l.self.truck) (range_with_len 0 l.segment);
  steps : TestsAtMost l.segment l.fn.steps l.steps;
}
