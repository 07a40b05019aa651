use Rattle.std.proofs.Common.{◌≤◌, arith}
use Rattle.axle_train.specs.Trains.{axle_at}
use Rattle.axle_train.proofs.Places.{place_ordered}
use Rattle.shear_peak.proofs.reactions.front_of.Goals as goal

pub returns-then-axle-reach-clause-past : goal.returns-then-axle-reach-clause-past
returns-then-axle-reach-clause-past c = λ i from within.
    let here : c.args.reach ≤ (axle_at c.args.train.now c.loop-i.i).place = rw c.axle.ensures.value at c.if-axle-reach.true in
    omega (arith, here, place_ordered c.args.train.now 0 c.loop-i.i i c.len-i-end.ensures.bounds.rising (omega (arith, from, c.loop-i.invariant.at)) within)
