use Rattle.program_laws.proofs.Telling.{each_told}
use Rattle.program_laws.proofs.recalls.each_recall_has_its_line.Goals as goal

pub returns : goal.returns
returns c = each_told c.runs_are_one.ensures.first
