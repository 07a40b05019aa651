use Rattle.axle_limits.proofs.WorstGroups.{worst_is_there, worst_is_one}
use Rattle.axle_limits.proofs.laws.there_is_one_worst_group.Goals as goal

pub returns-clause-there : goal.returns-clause-there
returns-clause-there c = worst_is_there

pub returns-clause-one : goal.returns-clause-one
returns-clause-one c = worst_is_one
