use Rattle.influence_line.proofs.Binary.{halved}
use Rattle.influence_line.proofs.divisor.odd_part.Goals as goal

pub returns-clause-halved : goal.returns-clause-halved
returns-clause-halved c = (halved 64 c.args.n c.requires.some c.ranges.n.fits).0

pub returns-clause-odd : goal.returns-clause-odd
returns-clause-odd c = (halved 64 c.args.n c.requires.some c.ranges.n.fits).1
