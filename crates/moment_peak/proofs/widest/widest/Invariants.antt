use Rattle.std.proofs.Common.{◌-◌}
use Rattle.moment_peak.specs.Centres.{HoldsCentres}
use Rattle.moment_peak.specs.Sweeps.{IsSummed}
use Rattle.moment_peak.proofs.widest.widest.Given as goal

abbrev pub invariant-runs : goal.invariant-runs
invariant-runs l = record {
  summed : IsSummed l.train l.wide;
  inside : HoldsCentres l.train l.run.sums l.wide;
}

abbrev pub decreases-runs : goal.decreases-runs
decreases-runs l = l.wide.last - l.wide.first
