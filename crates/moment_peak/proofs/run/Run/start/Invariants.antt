use Rattle.std.proofs.Common.{◌≡◌, ◌+◌, ◌*◌, ◌<◌}
use Rattle.axle_train.specs.Trains.{axle_at}
use Rattle.moment_peak.specs.Sweeps.{IsSummed}
use Rattle.moment_peak.proofs.run.Run.start.Given as goal

abbrev pub invariant-loop-last : goal.invariant-loop-last
invariant-loop-last l = record {
  summed : IsSummed l.train l.run;
  first : l.run.first ≡ 0;
  last : l.run.last + 1 ≡ l.last;
  half : 2 * (axle_at l.train l.run.last).place < l.span;
}
