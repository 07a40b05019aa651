use Rattle.std.proofs.Common.{arith}
use Rattle.moment_peak.proofs.RunSums.{sums_none, sums_with}
use Rattle.moment_peak.proofs.run.Run.alone.Goals as goal

pub returns-clause-summed : goal.returns-clause-summed
returns-clause-summed c =
    let axles = c.args.train.now in
    let i = c.args.i in
    let train = c.len-len.ensures.bounds in
    let none = sums_none axles i c.none.result train c.none.ensures.weight c.none.ensures.moment in
    record {
      ordered = omega arith;
      within = c.requires.within;
      sums = sums_with axles i i c.none.result c.with.result train (omega arith) c.requires.within none (rw c.axle.ensures.value at c.with.ensures);
    }
