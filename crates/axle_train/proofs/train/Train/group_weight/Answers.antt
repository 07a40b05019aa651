use Rattle.axle_train.proofs.Weights.{group-difference}
use Rattle.axle_train.proofs.train.Train.group_weight.Goals as goal

pub overflow_sub-result : goal.overflow_sub-result
overflow_sub-result c =
    (group-difference c.args.self.now c.self.inside.before c.args.i c.args.j (rw c.self.view_is at c.self.invariant.2) c.requires.ordered c.requires.within).0

pub returns-clause-value : goal.returns-clause-value
returns-clause-value c =
    (group-difference c.args.self.now c.self.inside.before c.args.i c.args.j (rw c.self.view_is at c.self.invariant.2) c.requires.ordered c.requires.within).1
