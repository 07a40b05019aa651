use Rattle.journal_reader.proofs.Long.{long_journals}
use Rattle.journal_reader.proofs.laws.journals_are_long.Goals as goal

pub returns : goal.returns
returns c = long_journals
