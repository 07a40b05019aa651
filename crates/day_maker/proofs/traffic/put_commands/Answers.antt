use Rattle.std.proofs.Common.{arith, ◌*◌}
use Rattle.day_maker.specs.Made.{command}
use Rattle.day_maker.proofs.Pages.{each_end, each_more}
use Rattle.day_maker.proofs.traffic.put_commands.Goals as goal

pub commands-preserved : goal.commands-preserved
commands-preserved c = each_more (λ i. command c.args.size) c.commands.page c.put_command.new.page _ c.commands.counter (20 * c.args.size) (omega arith) c.commands.invariant c.in_ok-put_command.ensures

pub returns : goal.returns
returns c = each_end (λ i. command c.args.size) c.commands.page _ c.commands.counter (20 * c.args.size) (omega arith) c.commands.invariant
