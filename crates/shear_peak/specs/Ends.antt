-- The places with one axle of a train exactly at a support, among which the peak end shear is found.
use Rattle.std.specs.Prelude.{◌≡◌, ℕ, ◌*◌, ◌<◌, ◌≤◌, List, length, slice_index, ℤ, pos, neg_ℤ, ◌-ℤ◌}
use Rattle.axle_train.specs.declared.axle.Axle.{Axle}
use Rattle.axle_train.specs.Trains.{axle_at}
use Rattle.influence_line.specs.Placed.{placed}
use Rattle.influence_line.specs.Reactions.{reaction_sum}
use Rattle.influence_line.specs.declared.placing.End.{End}
use Rattle.influence_line.specs.declared.placing.End.TheVariants.{Left, Right}
use Rattle.shear_peak.specs.declared.Candidate.{Candidate}

-- the lead in inches that puts the axle at `place` at the support
abbrev pub lead_to : ℕ → End → ℕ → ℤ
lead_to span Left place = neg_ℤ (pos place)
lead_to span Right place = pos span -ℤ pos place

-- the reaction at an end with axle k at the support there, in pounds times the span
abbrev pub reaction_to : List Axle → ℕ → End → ℕ → ℕ
reaction_to axles span end k = reaction_sum (1 * span) end (placed 1 (lead_to span end (axle_at axles k).place) axles)

-- these are the reactions with each axle in turn at the support there
abbrev pub AreReactionsTo : List Axle → ℕ → End → List ℕ → Type 0
AreReactionsTo axles span end reactions =
    (k : ℕ) → k < length axles → slice_index reactions k ≡ reaction_to axles span end k

-- the axle is the first whose reaction at this end, with itself at the support, is the greatest
pub record IsFirstBestAt (axles : List Axle) (span : ℕ) (best : Candidate) : Type 0 where
  pub within : best.axle < length axles
  pub reached : best.value ≡ reaction_to axles span best.end best.axle
  pub greatest : (i : ℕ) → i < length axles → reaction_to axles span best.end i ≤ best.value
  pub first : (i : ℕ) → i < best.axle → reaction_to axles span best.end i < best.value

-- and no reaction at either end is greater, nor as great at the left one where this is the right one
pub record IsFirstBest (axles : List Axle) (span : ℕ) (best : Candidate) : Type 0 where
  pub here : IsFirstBestAt axles span best
  pub greatest : (e : End) (i : ℕ) → i < length axles → reaction_to axles span e i ≤ best.value
  pub left_first : best.end ≡ Right → (i : ℕ) → i < length axles → reaction_to axles span Left i < best.value

-- of the places with an axle at a support, this is the first whose reaction there is num over den: the left support comes before the right one, and at one support the axles come in their order
pub record IsFirstToReach (axles : List Axle) (span : ℕ) (end : End) (lead : ℤ) (num den : ℕ) : Type 0 where
  pub k : ℕ
  pub within : k < length axles
  pub lead_is : lead ≡ lead_to span end (axle_at axles k).place
  pub reaches : reaction_to axles span end k * den ≡ num * span
  pub earlier : (i : ℕ) → i < k → reaction_to axles span end i * den ≡ num * span → ⊥
  pub left_first : end ≡ Right → (i : ℕ) → i < length axles → reaction_to axles span Left i * den ≡ num * span → ⊥
