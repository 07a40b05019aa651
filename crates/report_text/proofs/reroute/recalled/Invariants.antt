use Rattle.std.proofs.Common.{◌≡◌, take}
use Rattle.reroute_desk.specs.Issues.{recalled_in}
use Rattle.report_text.proofs.reroute.recalled.Given as goal

abbrev pub invariant-entries : goal.invariant-entries
invariant-entries l = l.numbers.items ≡ recalled_in (take l.entry-index l.history)
