use Rattle.std.proofs.Common.{refl}
use Rattle.moment_peak.proofs.RunSums.{summed_with}
use Rattle.moment_peak.proofs.run.Run.with_next.Goals as goal

pub returns-clause-more : goal.returns-clause-more
returns-clause-more c = rw c.axle.ensures.value at c.with.ensures

pub returns-clause-summed : goal.returns-clause-summed
returns-clause-summed c = summed_with c.args.train.now c.args.self _ c.len-len.ensures.bounds c.requires.summed c.requires.more refl refl (returns-clause-more c)
