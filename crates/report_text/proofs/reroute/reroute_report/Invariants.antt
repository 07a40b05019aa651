use Rattle.std.proofs.Common.{◌≡◌, ◌++◌, drop}
use Rattle.report_text.specs.RecallLines.{permit_lines, replies_to, reroute_text}
use Rattle.report_text.proofs.reroute.reroute_report.Given as goal

-- what is left to tell, behind what was told
abbrev pub invariant-entries : goal.invariant-entries
invariant-entries l =
    l.text.items ++ permit_lines l.left (replies_to l.caller (drop l.entry-index l.history)) ≡ reroute_text l.caller l.history
