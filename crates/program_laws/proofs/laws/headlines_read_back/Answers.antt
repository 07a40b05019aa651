use Rattle.program_laws.proofs.Headlines.{headline_reads_back}
use Rattle.program_laws.proofs.laws.headlines_read_back.Goals as goal

pub returns : goal.returns
returns c = headline_reads_back
