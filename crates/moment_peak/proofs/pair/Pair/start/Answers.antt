use Rattle.std.proofs.Common.{refl, sym}
use Rattle.moment_peak.specs.declared.pair.Pair.{Pair}
use Rattle.moment_peak.proofs.Order.{start_first}
use Rattle.moment_peak.proofs.Pointer.{fresh_pair, start_on}
use Rattle.moment_peak.proofs.RunSums.{sums_none}
use Rattle.moment_peak.proofs.pair.Pair.start.Goals as goal

pub returns-clause-pair : goal.returns-clause-pair
returns-clause-pair c =
    let axles = c.args.train.now in
    let run = c.start.ensures in
    let pair : Pair = record { run = c.start.result; axle = 0; before = c.none.result } in
    fresh_pair c.args.span axles pair run.bounds (start_on c.args.span axles c.start.result run.summed run.first run.half) (sym run.first)
    (rw run.first (sums_none axles 0 c.none.result run.bounds c.none.ensures.weight c.none.ensures.moment)) c.none.ensures.weight

pub returns-clause-first : goal.returns-clause-first
returns-clause-first c = start_first c.args.span c.args.train.now _ c.start.ensures.bounds (returns-clause-pair c) c.start.ensures.first refl c.start.ensures.half
