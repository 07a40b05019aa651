use Rattle.restriction_log.specs.States.{AreOf}
use Rattle.road_tests.proofs.analyses.lowered.Given as goal

abbrev pub invariant-low : goal.invariant-low
invariant-low g l = AreOf l.network l.state
