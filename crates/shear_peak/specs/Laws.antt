-- What makes the answer of a peak end shear one: its value, its lead and its end.
use Rattle.std.specs.Prelude.{◌≡◌, ℕ, ◌*◌, ◌≤◌, List}
use Rattle.axle_train.specs.declared.axle.Axle.{Axle}
use Rattle.influence_line.specs.Fractions.{IsLowest}
use Rattle.influence_line.specs.Peaks.{IsPeakShear, IsTrainPlaced}
use Rattle.influence_line.specs.Placed.{placed}
use Rattle.influence_line.specs.Reactions.{reaction_sum}
use Rattle.shear_peak.specs.Ends.{IsFirstToReach}
use Rattle.shear_peak.specs.declared.ShearPeak.{ShearPeak}

-- the train reaches the shear where it stands: the reaction at that end with the train at that lead is the value
abbrev pub IsReached : List Axle → ℕ → ShearPeak → Type 0
IsReached axles span s = reaction_sum span s.end (placed 1 s.lead axles) * s.value.den ≡ s.value.num * span

-- the place of a peak end shear is the first of the places with an axle at a support that reaches it
abbrev pub IsAtFirstSupport : List Axle → ℕ → ShearPeak → Type 0
IsAtFirstSupport axles span s = IsFirstToReach axles span s.end s.lead s.value.num s.value.den

-- a peak end shear: reached and exceeded by no placement, in lowest terms, with the first place that reaches it
pub record IsShearPeak (axles : List Axle) (span : ℕ) (s : ShearPeak) : Type 0 where
  pub peak : IsPeakShear (IsTrainPlaced axles) span s.value.num s.value.den
  pub lowest : IsLowest s.value
  pub first : IsAtFirstSupport axles span s

-- a train has one peak end shear on a span
abbrev pub ShearPeakIsOne : Type 0
ShearPeakIsOne =
    (axles : List Axle) (span : ℕ) (a b : ShearPeak) → 1 ≤ span → IsShearPeak axles span a → IsShearPeak axles span b → a ≡ b
