use Rattle.std.proofs.Common.{[], ◌∷◌, ◌++◌}
use Rattle.std.proofs.lemmas.List.Elements.{All-push, All-same}
use Rattle.office_words.specs.Commands.{MayCarryOut}
use Rattle.office_tests.proofs.analysts.script.Goals as goal

pub loop-kind-preserved : goal.loop-kind-preserved
loop-kind-preserved g c = All-same (MayCarryOut c.args.base.now) c.push.new.self.items (c.loop-kind.script.items ++ c.command.result ∷ []) c.in_ok-push.ensures.items (All-push (MayCarryOut c.args.base.now) c.loop-kind.script.items c.command.result c.loop-kind.invariant c.command.ensures)
