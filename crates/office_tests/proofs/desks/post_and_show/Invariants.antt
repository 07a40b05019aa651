use Rattle.office_turn.specs.Told.{IsReady}
use Rattle.office_tests.proofs.desks.post_and_show.Given as goal

abbrev pub invariant-loop : goal.invariant-loop
invariant-loop g l = IsReady l.desk l.pass
