use Rattle.std.proofs.Common.{◌≡◌, ◌-◌, length}
use Rattle.moment_peak.specs.Sweeps.{IsSummed}
use Rattle.moment_peak.proofs.run.Run.whole.Given as goal

abbrev pub invariant-axles : goal.invariant-axles
invariant-axles l = record {
  summed : IsSummed l.train l.run;
  first : l.run.first ≡ 0;
}

abbrev pub decreases-axles : goal.decreases-axles
decreases-axles l = length l.train - l.run.last
