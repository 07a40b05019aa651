-- The pairs of an axle and a run under which a train can have its peak moment, in the order in which it rolls over the span.
use Rattle.std.specs.Prelude.{◌≡◌, ℕ, ◌+◌, ◌-◌, ◌*◌, ◌<◌, ◌≤◌, ◌⊎◌, List, length, take, drop}
use Rattle.axle_train.specs.declared.axle.Axle.{Axle}
use Rattle.axle_train.specs.Trains.{axle_at}
use Rattle.moment_peak.specs.declared.pair.Pair.{Pair}
use Rattle.moment_peak.specs.declared.run.Run.{Run}
use Rattle.moment_peak.specs.Runs.{run_weight, run_moment, weight_in, IsRunWith, CanBeOnSpan}
use Rattle.moment_peak.specs.Sweeps.{AreSums, IsOnSpan}

-- where the far support meets the train when axle k stands at its vertex with a run, in inches behind the first axle, times twice the run's weight
abbrev pub far_support : ℕ → List Axle → ℕ → ℕ → ℕ → ℕ
far_support span axles k first last = run_weight axles first last * (span + (axle_at axles k).place) + run_moment axles first last

-- the weight of the axles of a run from first that are before axle k
abbrev pub weight_to : List Axle → ℕ → ℕ → ℕ
weight_to axles first k = weight_in (take (k - first) (drop first axles))

-- axle k and the run make a peak only so: at their vertex the run alone is on the span, and the shear, which the left reaction less the weight on the left of a section is, passes 0 under the axle
pub record IsTight (span : ℕ) (axles : List Axle) (k first last : ℕ) : Type 0 where
  pub is_run : IsRunWith axles k first last
  pub can_be : CanBeOnSpan span axles first last
  pub last_on : 2 * (run_weight axles first last * (axle_at axles last).place) ≤ far_support span axles k first last
  pub front_off : 0 < first → 2 * (run_weight axles first last * ((axle_at axles (first - 1)).place + span)) ≤ far_support span axles k first last
  pub first_on : far_support span axles k first last ≤ 2 * (run_weight axles first last * ((axle_at axles first).place + span))
  pub back_off : last + 1 < length axles → far_support span axles k first last ≤ 2 * (run_weight axles first last * (axle_at axles (last + 1)).place)
  pub shear_from : 2 * (span * weight_to axles first k + run_moment axles first last) ≤ far_support span axles k first last
  pub shear_to : k < last → far_support span axles k first last < 2 * (span * weight_to axles first (k + 1) + run_moment axles first last)

-- the shear under the pair's axle is at least 0 while the far support is in front of this place
abbrev pub IsShearFrom : ℕ → Pair → ℕ → Type 0
IsShearFrom span pair place = span * pair.before.weight + pair.run.sums.moment ≤ pair.run.sums.weight * place

-- an axle of a run that can be on the span, with their sums; the shear under it is at least 0 as the run ends, where the next axle comes on or the first one goes off
pub record IsPair (span : ℕ) (axles : List Axle) (pair : Pair) : Type 0 where
  pub on : IsOnSpan span axles pair.run
  pub from : pair.run.first ≤ pair.axle
  pub to : pair.axle ≤ pair.run.last
  pub before : AreSums axles pair.run.first pair.axle pair.before
  pub to_first : IsShearFrom span pair ((axle_at axles pair.run.first).place + span)
  pub to_next : pair.run.last + 1 < length axles → IsShearFrom span pair (axle_at axles (pair.run.last + 1)).place

-- axle k and the run first to last are this pair
pub record IsThisPair (pair : Pair) (k first last : ℕ) : Type 0 where
  pub at_axle : k ≡ pair.axle
  pub at_first : first ≡ pair.run.first
  pub at_last : last ≡ pair.run.last

-- they are of a run before the pair's, which begins or ends earlier, or of the pair's own run and no later axle
abbrev pub IsUpToPair : Pair → ℕ → ℕ → ℕ → Type 0
IsUpToPair pair k first last = (first + last < pair.run.first + pair.run.last) ⊎ ((k ≤ pair.axle) × (first ≡ pair.run.first) × (last ≡ pair.run.last))

-- the pair is the first of the tight ones, if it is one
abbrev pub IsFirstPair : ℕ → List Axle → Pair → Type 0
IsFirstPair span axles pair = (k first last : ℕ) → IsTight span axles k first last → IsUpToPair pair k first last → IsThisPair pair k first last

-- the next pair of the sweep: its axle is no earlier, and no tight pair is between the two; that the places of its three axles have a greater sum ends the sweep
pub record IsNextPair (span : ℕ) (axles : List Axle) (pair next : Pair) : Type 0 where
  pub is_pair : IsPair span axles next
  pub axle : pair.axle ≤ next.axle
  pub later : pair.run.first + pair.run.last + pair.axle < next.run.first + next.run.last + next.axle
  pub none_between : (k first last : ℕ) → IsTight span axles k first last → IsUpToPair next k first last → IsUpToPair pair k first last ⊎ IsThisPair next k first last

-- no tight pair is after this one
abbrev pub IsLastPair : ℕ → List Axle → Pair → Type 0
IsLastPair span axles pair = (k first last : ℕ) → IsTight span axles k first last → IsUpToPair pair k first last

-- a run ends where the far support meets the train as the next axle comes on or the first one goes off
pub record IsRunEnd (span : ℕ) (axles : List Axle) (run : Run) (place : ℕ) : Type 0 where
  pub to_first : place ≤ (axle_at axles run.first).place + span
  pub to_next : run.last + 1 < length axles → place ≤ (axle_at axles (run.last + 1)).place
  pub is_end : (k : ℕ) → IsTight span axles k run.first run.last → far_support span axles k run.first run.last ≤ 2 * (run_weight axles run.first run.last * place)

-- no tight pair of the same run has a later axle
abbrev pub IsLastOfRun : ℕ → List Axle → Pair → Type 0
IsLastOfRun span axles pair = (k : ℕ) → IsTight span axles k pair.run.first pair.run.last → k ≤ pair.axle
