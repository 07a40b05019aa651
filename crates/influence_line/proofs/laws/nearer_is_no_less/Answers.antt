use Rattle.influence_line.proofs.Moves.{nearer_no_less}
use Rattle.influence_line.proofs.laws.nearer_is_no_less.Goals as goal

pub returns : goal.returns
returns c = nearer_no_less
