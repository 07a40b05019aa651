use Rattle.program_laws.proofs.Headlines.{text_has_one_history}
use Rattle.program_laws.proofs.laws.texts_have_one_history.Goals as goal

pub returns : goal.returns
returns c = text_has_one_history
