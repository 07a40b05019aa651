use Rattle.program_laws.proofs.ReadingBack.{histories_fit}
use Rattle.program_laws.proofs.laws.day_histories_fit.Goals as goal

pub returns : goal.returns
returns c = histories_fit
