use Rattle.std.proofs.Common.{arith}
use Rattle.axle_train.proofs.Places.{place_ordered}
use Rattle.axle_train.proofs.train.Train.spread.Goals as goal

pub overflow_sub-result : goal.overflow_sub-result
overflow_sub-result c = let ordered = place_ordered c.args.self.now 0 c.args.i c.args.j c.len-len.ensures.bounds.rising c.requires.ordered c.requires.within in grind arith
