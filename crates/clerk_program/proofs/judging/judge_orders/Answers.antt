use Rattle.std.proofs.Common.{arith, subst}
use Rattle.day_text.specs.Records.{rows_of}
use Rattle.journal_whole.specs.Wholes.{IsWholeness}
use Rattle.clerk_program.proofs.Refusing.{refused_lack, refused_stray}
use Rattle.clerk_program.proofs.judging.judge_orders.Goals as goal

pub of_stray-requires : goal.of_stray-requires
of_stray-requires c =
    let strays = subst (IsWholeness c.args.actors c.args.commands.now c.args.history.now) c.in-Strays.is c.in_ok-judge.ensures in
    omega (arith, strays.there, c.requires.few)

pub returns-in-Strays-clause-refused : goal.returns-in-Strays-clause-refused
returns-in-Strays-clause-refused c =
    let strays = subst (IsWholeness c.args.actors c.args.commands.now c.args.history.now) c.in-Strays.is c.in_ok-judge.ensures in
    refused_stray (rows_of c.args.bytes.now) c.args.actors c.args.commands.now c.args.history.now c.in-Strays.entry strays c.of_stray.result c.of_stray.ensures

pub returns-in_ok-row_of_command-in-Lacks-clause-refused : goal.returns-in_ok-row_of_command-in-Lacks-clause-refused
returns-in_ok-row_of_command-in-Lacks-clause-refused c =
    let lacks = subst (IsWholeness c.args.actors c.args.commands.now c.args.history.now) c.in-Lacks.is c.in_ok-judge.ensures in
    refused_lack (rows_of c.args.bytes.now) c.args.actors c.args.commands.now c.args.history.now c.in-Lacks.order c.in_ok-row_of_command-in-Lacks.field-0 lacks
    c.in_ok-row_of_command-in-Lacks.ensures c.of_lack.result c.of_lack.ensures
