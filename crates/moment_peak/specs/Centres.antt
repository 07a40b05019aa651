-- Runs with one centre of weight, whose vertices with an axle are one place, and which of them is named.
use Rattle.std.specs.Prelude.{◌≡◌, ℕ, ◌*◌, ◌<◌, ◌≤◌, List, length}
use Rattle.axle_train.specs.declared.axle.Axle.{Axle}
use Rattle.moment_peak.specs.declared.best.Candidate.{Candidate}
use Rattle.moment_peak.specs.declared.run.Run.{Run}
use Rattle.moment_peak.specs.declared.run.Sums.{Sums}
use Rattle.moment_peak.specs.Pairs.{IsTight}
use Rattle.moment_peak.specs.Runs.{run_weight, run_moment, run_value}
use Rattle.moment_peak.specs.Sweeps.{IsSummed}

-- the axles first to last have the centre of weight of these sums
abbrev pub HasCentre : List Axle → ℕ → ℕ → Sums → Type 0
HasCentre axles first last sums = run_moment axles first last * sums.weight ≡ sums.moment * run_weight axles first last

-- two runs have one centre of weight
abbrev pub HaveOneCentre : List Axle → ℕ → ℕ → ℕ → ℕ → Type 0
HaveOneCentre axles first last first' last' = run_moment axles first last * run_weight axles first' last' ≡ run_moment axles first' last' * run_weight axles first last

-- each run with the centre of these sums is inside this one
abbrev pub HoldsCentres : List Axle → Sums → Run → Type 0
HoldsCentres axles centre wide = (first last : ℕ) → first ≤ last → last < length axles → HasCentre axles first last centre → (wide.first ≤ first) × (last ≤ wide.last)

-- the run has the centre of these sums, and each other one that has it is inside
pub record IsWidest (axles : List Axle) (centre : Sums) (wide : Run) : Type 0 where
  pub summed : IsSummed axles wide
  pub same_centre : HasCentre axles wide.first wide.last centre
  pub inside : HoldsCentres axles centre wide

-- in the order of axle, first and last this axle with the wide run is k, first and last, or comes before them
pub record IsNoLater (axle : ℕ) (wide : Run) (k first last : ℕ) : Type 0 where
  pub by_axle : axle ≤ k
  pub by_first : axle ≡ k → wide.first ≤ first
  pub by_last : axle ≡ k → wide.first ≡ first → wide.last ≤ last

-- the candidate's axle with its widest run is no later than axle k with any run that has the centre of weight of these axles
abbrev pub IsFirstTo : List Axle → Candidate → ℕ → ℕ → ℕ → Type 0
IsFirstTo axles best k first' last' = (wide : Run) → IsWidest axles best.run.sums wide → (first last : ℕ) → first ≤ last → last < length axles → HaveOneCentre axles first last first' last' → IsNoLater best.axle wide k first last

-- a value over a weight, of axle k with these axles, is no more than the candidate's; where it is as much, the candidate comes first
pub record IsNoBetter (axles : List Axle) (best : Candidate) (value weight k first last : ℕ) : Type 0 where
  pub most : value * best.run.sums.weight ≤ best.value * weight
  pub order : value * best.run.sums.weight ≡ best.value * weight → IsFirstTo axles best k first last

-- the next candidate is no better than the result
abbrev pub IsNoWorse : List Axle → Candidate → Candidate → Type 0
IsNoWorse axles result next = IsNoBetter axles result next.value next.run.sums.weight next.axle next.run.first next.run.last

-- what is no better than the one candidate is no better than the other
abbrev pub KeepsAll : List Axle → Candidate → Candidate → Type 0
KeepsAll axles best result = (v w k first last : ℕ) → 0 < w → IsNoBetter axles best v w k first last → IsNoBetter axles result v w k first last

-- the widest run with the one centre comes before that with the other in the order of first and last, or is the same
pub record HasEarlierRun (axles : List Axle) (one other : Sums) : Type 0 where
  pub wide : Run
  pub wide' : Run
  pub is_widest : IsWidest axles one wide
  pub is_widest' : IsWidest axles other wide'
  pub by_first : wide.first ≤ wide'.first
  pub by_last : wide.first ≡ wide'.first → wide.last ≤ wide'.last

-- no tight pair is better than the candidate
abbrev pub IsFirstBestPair : ℕ → List Axle → Candidate → Type 0
IsFirstBestPair span axles best = (k first last : ℕ) → IsTight span axles k first last → IsNoBetter axles best (run_value span axles k first last) (run_weight axles first last) k first last
