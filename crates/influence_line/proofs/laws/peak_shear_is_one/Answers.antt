use Rattle.influence_line.proofs.Unique.{shear_unique}
use Rattle.influence_line.proofs.laws.peak_shear_is_one.Goals as goal

pub returns : goal.returns
returns g c = shear_unique (g.P.Placements.allowed c.args.placements.now)
