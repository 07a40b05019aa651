use Rattle.clerk_program.proofs.Carrying.{carried_where_promised}
use Rattle.clerk_program.proofs.laws.days_are_carried_where_it_can_be.Goals as goal

pub returns : goal.returns
returns c = carried_where_promised
