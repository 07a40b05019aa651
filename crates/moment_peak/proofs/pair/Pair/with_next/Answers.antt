use Rattle.std.proofs.Common.{arith, refl}
use Rattle.moment_peak.specs.declared.pair.Pair.{Pair}
use Rattle.moment_peak.proofs.Order.{run_next}
use Rattle.moment_peak.proofs.Pointer.{longer_pair, longer_fresh}
use Rattle.moment_peak.proofs.pair.Pair.with_next.Goals as goal

pub returns : goal.returns
returns c =
    let self = c.args.self in
    let axles = c.args.train.now in
    let train = c.len-len.ensures.bounds in
    let run = c.with_next.ensures in
    let next : Pair = record { run = c.with_next.result; axle = self.axle; before = self.before } in
    let pair = longer_pair c.args.span axles self next train c.requires.pair c.requires.more c.requires.fits run.summed run.first run.last refl refl run.more in
    run_next c.args.span axles self next train c.requires.pair c.requires.last pair (omega arith) (omega (arith, run.first, run.last))
    (λ first last can later. omega (arith, later, run.first, run.last))
    (longer_fresh c.args.span axles self next c.requires.pair pair c.requires.more run.last refl refl run.more)
