use Rattle.influence_line.proofs.Unique.{moment_unique}
use Rattle.influence_line.proofs.laws.peak_moment_is_one.Goals as goal

pub returns : goal.returns
returns g c = moment_unique (g.P.Placements.allowed c.args.placements.now)
