use Rattle.clerk_program.proofs.Statuses.{clerk_named}
use Rattle.clerk_program.proofs.laws.every_clerk_status_is_named.Goals as goal

pub returns : goal.returns
returns g c = clerk_named
