-- Runs that can be the axles on the span, and their sums.
use Rattle.std.specs.Prelude.{◌≡◌, ℕ, ◌+◌, ◌-◌, ◌*◌, ◌<◌, ◌≤◌, List, length, take, drop}
use Rattle.axle_train.specs.declared.axle.Axle.{Axle}
use Rattle.axle_train.specs.Trains.{spread}
use Rattle.moment_peak.specs.declared.run.Sums.{Sums}
use Rattle.moment_peak.specs.declared.run.Run.{Run}
use Rattle.moment_peak.specs.Runs.{weight_in, moment_in, CanBeOnSpan}

-- the sums of the axles from first on and before end; no train has more than 2,000,000 lb and 3,000 in
pub record AreSums (axles : List Axle) (first end : ℕ) (sums : Sums) : Type 0 where
  pub weight : sums.weight ≡ weight_in (take (end - first) (drop first axles))
  pub moment : sums.moment ≡ moment_in (take (end - first) (drop first axles))
  pub light : sums.weight ≤ 2000000
  pub near : sums.moment ≤ 6000000000

-- sums with one axle more
pub record IsMore (less more : Sums) (axle : Axle) : Type 0 where
  pub weight : more.weight ≡ less.weight + axle.weight
  pub moment : more.moment ≡ less.moment + axle.weight * axle.place

-- a run of a train's axles, and its sums
pub record IsSummed (axles : List Axle) (run : Run) : Type 0 where
  pub ordered : run.first ≤ run.last
  pub within : run.last < length axles
  pub sums : AreSums axles run.first (run.last + 1) run.sums

-- a run that can be exactly the axles on the span, and its sums
pub record IsOnSpan (span : ℕ) (axles : List Axle) (run : Run) : Type 0 where
  pub can_be : CanBeOnSpan span axles run.first run.last
  pub sums : AreSums axles run.first (run.last + 1) run.sums

-- the axle behind the run, if there is one, does not fit on the span with it
abbrev pub IsFullRun : ℕ → List Axle → Run → Type 0
IsFullRun span axles run = run.last + 1 < length axles → span < spread axles run.first (run.last + 1)
