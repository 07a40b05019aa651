use Rattle.std.proofs.Common.{◌≡◌, ◌+◌, length, take}
use Rattle.std.specs.List.{All}
use Rattle.journal_audit.specs.Versions.{IsNamed}
use Rattle.journal_audit.proofs.marks.marks_of.Given as goal

abbrev pub invariant-entries : goal.invariant-entries
invariant-entries l = record {
  count : length l.marks.items ≡ length l.history + 1;
  named : All (λ e. IsNamed l.marks.items e.call) (take l.i l.history);
}
