use Rattle.program_laws.proofs.ReadingBack.{journals_have_one_history}
use Rattle.program_laws.proofs.laws.day_journals_have_one_history.Goals as goal

pub returns : goal.returns
returns c = journals_have_one_history
