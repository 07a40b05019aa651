use Rattle.program_laws.proofs.Headlines.{journal_is_whole}
use Rattle.program_laws.proofs.laws.day_journals_are_whole.Goals as goal

pub returns : goal.returns
returns c = journal_is_whole
