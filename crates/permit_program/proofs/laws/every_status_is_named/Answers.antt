use Rattle.permit_program.proofs.Statuses.{all_named}
use Rattle.permit_program.proofs.laws.every_status_is_named.Goals as goal

pub returns : goal.returns
returns g c = all_named
