use Rattle.std.proofs.Common.{ℕ, ◌+◌, ◌-◌, ◌*◌, ◌≤◌, length}
use Rattle.moment_peak.specs.Candidates.{IsAttained}
use Rattle.moment_peak.specs.Centres.{IsNoBetter}
use Rattle.moment_peak.specs.Pairs.{IsPair, IsTight, IsUpToPair}
use Rattle.moment_peak.specs.Runs.{run_value, run_weight}
use Rattle.moment_peak.proofs.best.best_pair.Given as goal

abbrev pub invariant-pairs : goal.invariant-pairs
invariant-pairs l = record {
  pair : IsPair l.span l.train l.pair;
  attained : IsAttained l.span l.train l.best;
  order : l.best.axle ≤ l.pair.axle;
  first : (k first last : ℕ) → IsTight l.span l.train k first last → IsUpToPair l.pair k first last → IsNoBetter l.train l.best (run_value l.span l.train k first last) (run_weight l.train first last) k first last;
}

abbrev pub decreases-pairs : goal.decreases-pairs
decreases-pairs l = 3 * length l.train - (l.pair.run.first + l.pair.run.last + l.pair.axle)
