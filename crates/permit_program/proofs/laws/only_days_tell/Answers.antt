use Rattle.permit_program.proofs.Statuses.{only_days}
use Rattle.permit_program.proofs.laws.only_days_tell.Goals as goal

pub returns : goal.returns
returns g c = only_days
