use Rattle.std.proofs.Common.{◌≡◌, drop}
use Rattle.trip_analysis.specs.Passing.{TestsAtMost, first_on}
use Rattle.trip_analysis.proofs.truck_on.TruckOn.first_on.Given as goal

abbrev pub invariant-loop-i : goal.invariant-loop-i
invariant-loop-i g l = record {
  left : first_on l.self.base.now l.self.state.now l.self.truck (drop l.i l.route) ≡ first_on l.self.base.now l.self.state.now l.self.truck l.route;
  steps : TestsAtMost l.i l.fn.steps l.steps;
}
