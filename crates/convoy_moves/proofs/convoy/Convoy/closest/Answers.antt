use Rattle.convoy_moves.proofs.Closest.{kept_stands}
use Rattle.convoy_moves.proofs.convoy.Convoy.closest.Goals as goal

pub returns-clause-placed : goal.returns-clause-placed
returns-clause-placed c = kept_stands c.args.self.now c.self.inside.closest (rw c.self.view_is at c.self.invariant)
