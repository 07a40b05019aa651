use Rattle.axle_limits.proofs.Groups.{groups_are_listed}
use Rattle.axle_limits.proofs.laws.all_groups_are_listed.Goals as goal

pub returns : goal.returns
returns c = groups_are_listed
