use Rattle.std.proofs.Common.{sym, ◌∙◌}
use Rattle.std.proofs.lemmas.Slice.Eq.{bytes_eq-Decides}
use Rattle.journal_whole.proofs.sameness.are_same_days.Goals as goal

pub returns : goal.returns
returns c = let decides = bytes_eq-Decides c.args.one c.args.other in (λ is. decides.0 (sym c.eq.ensures ∙ is), λ same. c.eq.ensures ∙ decides.1 same)
