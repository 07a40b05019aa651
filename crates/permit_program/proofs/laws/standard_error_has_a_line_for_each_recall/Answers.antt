use Rattle.permit_program.proofs.Heard.{heard_all}
use Rattle.permit_program.proofs.laws.standard_error_has_a_line_for_each_recall.Goals as goal

pub returns : goal.returns
returns g c = heard_all
