use Rattle.office_turn.specs.Told.{IsReady}
use Rattle.office_tests.proofs.turns.note_each.Given as goal

abbrev pub invariant-loop-number : goal.invariant-loop-number
invariant-loop-number g l = IsReady l.turn l.pass
