use Rattle.journal_whole.proofs.Asking.{whole_ordered}
use Rattle.journal_whole.proofs.laws.whole_histories_ask_what_was_ordered.Goals as goal

pub returns : goal.returns
returns c = whole_ordered
