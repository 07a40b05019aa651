use Rattle.restriction_log.specs.States.{AreOf}
use Rattle.road_tests.proofs.postings.state_after.Given as goal

abbrev pub invariant-changes : goal.invariant-changes
invariant-changes g l = AreOf l.network l.state
