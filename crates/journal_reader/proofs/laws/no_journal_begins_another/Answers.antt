use Rattle.journal_reader.proofs.Whole.{no_proper_prefix}
use Rattle.journal_reader.proofs.laws.no_journal_begins_another.Goals as goal

pub returns : goal.returns
returns c = no_proper_prefix
