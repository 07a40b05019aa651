use Rattle.next_day.proofs.Numbers.{standing_in_force}
use Rattle.next_day.proofs.laws.standing_permits_are_in_force.Goals as goal

pub returns : goal.returns
returns c = standing_in_force
