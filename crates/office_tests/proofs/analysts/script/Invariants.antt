use Rattle.std.proofs.Common.{All}
use Rattle.office_words.specs.Commands.{MayCarryOut}
use Rattle.office_tests.proofs.analysts.script.Given as goal

abbrev pub invariant-loop-kind : goal.invariant-loop-kind
invariant-loop-kind g l = All (MayCarryOut l.base) l.script.items
