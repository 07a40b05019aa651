use Rattle.std.proofs.Common.{◌≡◌, ◌<◌, ◌≤◌, length, take, arith, subst}
use Rattle.std.specs.Arc.{arc_value}
use Rattle.journal_audit.specs.Verdicts.{IsAudited}
use Rattle.clerk_program.proofs.Refusing.{refused_entry}
use Rattle.clerk_program.proofs.Verdicts.{bad_here, too_many}
use Rattle.clerk_program.proofs.judging.judge_entries.Goals as goal

pub returns-then-history-most-clause-refused : goal.returns-then-history-most-clause-refused
returns-then-history-most-clause-refused c =
    let es = c.args.history.now in
    let base = arc_value c.args.base in
    let most = c.min-most.result in
    let more : most < length es = omega (arith, c.if-history-most.true) in
    let is : most ≡ 1000000 = omega (arith, c.min-most.ensures, more) in
    let legal = subst (IsAudited base c.args.day (take most es)) c.in-Legal.is c.in_ok-office.ensures in
    refused_entry base c.args.day es most (too_many base c.args.day es most is more legal.0) c.of_entry.result c.of_entry.ensures

pub returns-in-Bad-clause-refused : goal.returns-in-Bad-clause-refused
returns-in-Bad-clause-refused c =
    let es = c.args.history.now in
    let base = arc_value c.args.base in
    let most = c.min-most.result in
    let few : most ≤ 1000000 = omega (arith, c.min-most.ensures) in
    let bad = subst (IsAudited base c.args.day (take most es)) c.in-Bad.is c.in_ok-office.ensures in
    refused_entry base c.args.day es c.in-Bad.entry (bad_here base c.args.day es most c.in-Bad.entry few bad) c.of_entry-in-Bad.result c.of_entry-in-Bad.ensures
