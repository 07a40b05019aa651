use Rattle.std.proofs.Common.{◌≤◌, [], length, arith}
use Rattle.report_text.specs.RecallLines.{reroute_text}
use Rattle.report_text.proofs.RecallLines.{all_told}
use Rattle.report_text.proofs.reroute.reroute_report.Goals as goal

pub returns : goal.returns
returns c =
    let end : length c.args.history.now ≤ c.entries.entry-index = omega arith in
    all_told c.entries.text.items [] (reroute_text c.args.caller c.args.history.now) c.entries.left.now c.args.caller c.entries.entry-index c.args.history.now
    c.entries.invariant end
