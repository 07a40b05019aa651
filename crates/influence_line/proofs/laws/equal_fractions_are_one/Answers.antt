use Rattle.influence_line.proofs.Lowest.{lowest_unique}
use Rattle.influence_line.proofs.laws.equal_fractions_are_one.Goals as goal

pub returns : goal.returns
returns c = lowest_unique
