use Rattle.std.proofs.Common.{sym, subst}
use Rattle.command_line.specs.declared.asked.Task.{Task}
use Rattle.permit_program.specs.Command.{Makes}
use Rattle.permit_program.specs.Commands.{command_by}
use Rattle.permit_program.proofs.commands.make_text.Goals as goal

pub returns-in_ok-make_day_file-in-Make-clause-made : goal.returns-in_ok-make_day_file-in-Make-clause-made
returns-in_ok-make_day_file-in-Make-clause-made c =
    let asked = c.args.asked in
    subst (λ (t : Task). Makes (command_by t asked.options) c.args.bytes.now c.in_ok-make_day_file-in-Make.field-0.items) (sym c.in-Make.is) (c.in_ok-make_day_file-in-Make.ensures c.args.bytes.now)

pub returns-in_ok-make_summary-in-Trial-clause-made : goal.returns-in_ok-make_summary-in-Trial-clause-made
returns-in_ok-make_summary-in-Trial-clause-made c =
    let asked = c.args.asked in
    subst (λ (t : Task). Makes (command_by t asked.options) c.args.bytes.now c.in_ok-make_summary-in-Trial.field-0.items) (sym c.in-Trial.is) (c.in_ok-make_summary-in-Trial.ensures c.args.bytes.now)
