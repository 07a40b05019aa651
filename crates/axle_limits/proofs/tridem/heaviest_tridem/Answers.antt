use Rattle.std.proofs.Common.{arith, subst}
use Rattle.axle_limits.specs.Tridems.{IsHeaviestSoFar}
use Rattle.axle_limits.proofs.Tridems.{so_far_value}
use Rattle.axle_limits.proofs.tridem.heaviest_tridem.Goals as goal

pub returns-clause-value : goal.returns-clause-value
returns-clause-value c = so_far_value c.args.train.now c.loop-i.best (subst (λ n. IsHeaviestSoFar c.args.train.now n c.loop-i.best) (omega arith) c.loop-i.invariant)
