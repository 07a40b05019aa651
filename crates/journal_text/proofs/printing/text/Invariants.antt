use Rattle.std.proofs.Common.{◌≡◌, ◌++◌, take}
use Rattle.std.specs.Prelude.{flat_map}
use Rattle.journal_text.specs.Journals.{ended, line_of}
use Rattle.journal_text.proofs.printing.text.Given as goal

abbrev pub invariant-history : goal.invariant-history
invariant-history l = l.out.items ≡ l.initial.out.items ++ flat_map (λ e. ended (line_of e)) (take l.entry-index l.history)
