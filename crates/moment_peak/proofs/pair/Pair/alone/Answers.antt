use Rattle.std.proofs.Common.{◌<◌, ◌+◌, arith, sym}
use Rattle.axle_train.specs.Trains.{spread}
use Rattle.moment_peak.specs.declared.pair.Pair.{Pair}
use Rattle.moment_peak.proofs.Order.{run_next}
use Rattle.moment_peak.proofs.Pointer.{alone_on, fresh_pair}
use Rattle.moment_peak.proofs.RunSums.{sums_none}
use Rattle.moment_peak.proofs.Sweep.{none_between}
use Rattle.moment_peak.proofs.pair.Pair.alone.Goals as goal

pub returns : goal.returns
returns c =
    let self = c.args.self in
    let axles = c.args.train.now in
    let train = c.len-len.ensures.bounds in
    let run = c.alone.ensures in
    let next : Pair = record { run = c.alone.result; axle = self.run.last + 1; before = c.none.result } in
    let on = alone_on c.args.span axles self.run c.alone.result train c.requires.full c.requires.one c.requires.more run.summed run.first run.last in
    let none = sums_none axles (self.run.last + 1) c.none.result train c.none.ensures.weight c.none.ensures.moment in
    let pair = fresh_pair c.args.span axles next train on (sym run.first) (rw run.first none) c.none.ensures.weight in
    let far : c.args.span < spread axles self.run.last (self.run.last + 1) = rw c.requires.one at (c.requires.full c.requires.more) in
    run_next c.args.span axles self next train c.requires.pair c.requires.last pair (omega (arith, c.requires.pair.to)) (omega (arith, c.requires.one, run.first, run.last))
    (λ first last can later. omega (arith, none_between c.args.span axles self.run.last first last train far can (omega (arith, later, c.requires.one)), run.first, run.last))
    (λ k t. omega (arith, t.is_run.from, run.first))
