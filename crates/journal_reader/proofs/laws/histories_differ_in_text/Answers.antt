use Rattle.journal_reader.proofs.Whole.{one_history}
use Rattle.journal_reader.proofs.laws.histories_differ_in_text.Goals as goal

pub returns : goal.returns
returns c = one_history
