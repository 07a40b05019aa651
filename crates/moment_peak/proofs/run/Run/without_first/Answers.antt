use Rattle.std.proofs.Common.{◌+◌, arith, refl}
use Rattle.moment_peak.proofs.RunSums.{front_part, summed_without_first}
use Rattle.moment_peak.proofs.run.Run.without_first.Goals as goal

pub without-requires : goal.without-requires
without-requires c =
    let self = c.args.self in
    let s = c.requires.summed in
    rw c.axle.ensures.value (front_part c.args.train.now self.first (self.last + 1) self.sums (omega (arith, s.ordered)) (omega (arith, s.within)) s.sums)

pub returns-clause-less : goal.returns-clause-less
returns-clause-less c = rw c.axle.ensures.value at c.without.ensures

pub returns-clause-summed : goal.returns-clause-summed
returns-clause-summed c =
    summed_without_first c.args.train.now c.args.self _ c.len-len.ensures.bounds c.requires.summed c.requires.longer refl refl (returns-clause-less c)
