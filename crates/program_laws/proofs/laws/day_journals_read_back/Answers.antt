use Rattle.program_laws.proofs.ReadingBack.{journals_read_back}
use Rattle.program_laws.proofs.laws.day_journals_read_back.Goals as goal

pub returns : goal.returns
returns c = journals_read_back
