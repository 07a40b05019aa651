-- What makes the answer of a peak moment one: its value, its place, its axle and its run.
use Rattle.std.specs.Prelude.{◌≡◌, ℕ, ◌≤◌, List}
use Rattle.axle_train.specs.declared.axle.Axle.{Axle}
use Rattle.axle_train.specs.Bounds.{IsTrain}
use Rattle.influence_line.specs.Fractions.{IsLowest}
use Rattle.influence_line.specs.Peaks.{IsPeakMoment, IsTrainPlaced}
use Rattle.moment_peak.specs.Vertices.{IsFirstPlace}
use Rattle.moment_peak.specs.declared.MomentPeak.{MomentPeak}

-- the place, the axle and the run of a peak moment are those of the first vertex that reaches it
abbrev pub IsAtFirstVertex : List Axle → ℕ → MomentPeak → Type 0
IsAtFirstVertex axles span m = IsFirstPlace axles span m.value.num m.value.den m.axle m.first m.last m.place

-- a peak moment: reached and exceeded by no placement, in lowest terms, with the first vertex that reaches it
pub record IsMomentPeak (axles : List Axle) (span : ℕ) (m : MomentPeak) : Type 0 where
  pub peak : IsPeakMoment (IsTrainPlaced axles) span m.value.num m.value.den
  pub lowest : IsLowest m.value
  pub first : IsAtFirstVertex axles span m

-- a train has one peak moment on a span
abbrev pub MomentPeakIsOne : Type 0
MomentPeakIsOne =
    (axles : List Axle) (span : ℕ) (a b : MomentPeak) → IsTrain axles → 1 ≤ span → IsMomentPeak axles span a → IsMomentPeak axles span b → a ≡ b
