use Rattle.std.proofs.Common.{◌*◌, arith}
use Rattle.moment_peak.proofs.PeakOfPlaces.{peak_by_value, peak_moment_is}
use Rattle.moment_peak.proofs.best_moment.Goals as goal

pub returns-clause-function : goal.returns-clause-function
returns-clause-function c =
    let best = c.args.best in
    peak_by_value c.args.train.now c.args.span best.value (4 * best.run.sums.weight * c.args.span) c.reduced.result c.len-len.ensures.bounds c.requires.span (grind arith) c.reduced.ensures.lowest (grind arith) c.requires.peak

pub returns-clause-peak : goal.returns-clause-peak
returns-clause-peak c = rw (returns-clause-function c) (peak_moment_is c.args.train.now c.args.span c.len-len.ensures.bounds c.requires.span).0

pub returns-clause-small : goal.returns-clause-small
returns-clause-small c = rw (returns-clause-function c) (peak_moment_is c.args.train.now c.args.span c.len-len.ensures.bounds c.requires.span).1
