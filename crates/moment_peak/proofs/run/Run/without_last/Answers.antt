use Rattle.std.proofs.Common.{arith, refl}
use Rattle.moment_peak.proofs.RunSums.{last_part, summed_without_last}
use Rattle.moment_peak.proofs.run.Run.without_last.Goals as goal

pub without-requires : goal.without-requires
without-requires c = rw c.axle.ensures.value (last_part c.args.train.now c.args.self c.requires.summed)

pub returns-clause-summed : goal.returns-clause-summed
returns-clause-summed c =
    summed_without_last c.args.train.now c.args.self _ c.len-len.ensures.bounds c.requires.summed c.requires.longer refl (omega (arith, c.requires.longer)) (rw c.axle.ensures.value at c.without.ensures)
