use Rattle.program_laws.proofs.Headlines.{headline_fits}
use Rattle.program_laws.proofs.laws.headlines_fit.Goals as goal

pub returns : goal.returns
returns c = headline_fits
