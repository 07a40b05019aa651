-- The two effects of a set of placements on a span.
use Rattle.std.specs.Prelude.{ℕ, List}
use Rattle.axle_train.specs.declared.axle.Axle.{Axle}
use Rattle.axle_train.specs.Bounds.{IsTrain}
use Rattle.influence_line.specs.Placed.{Load}
use Rattle.influence_line.specs.Fractions.{IsSmall}
use Rattle.influence_line.specs.Peaks.{IsPeakMoment, IsPeakShear, IsTrainPlaced}
use Rattle.span_rating.specs.declared.loading.Effects.{Effects}

-- both effects are of the size that peaks have, so that products of two of them stay far below 2 ^ 128
pub record AreSmall (effects : Effects) : Type 0 where
  pub moment : IsSmall effects.moment
  pub shear : IsSmall effects.shear

-- these are the peak moment and the peak end shear of the allowed placements on a span, in lowest terms
pub record AreEffects (Allowed : ℕ → List Load → Type 0) (span : ℕ) (effects : Effects) : Type 0 where
  pub moment : IsPeakMoment Allowed span effects.moment.num effects.moment.den
  pub shear : IsPeakShear Allowed span effects.shear.num effects.shear.den
  pub small : AreSmall effects

-- these are the peaks of some train on a span
abbrev pub AreEffectsOfSomeTrain : ℕ → Effects → Type 0
AreEffectsOfSomeTrain span effects = (axles : List Axle) × IsTrain axles × AreEffects (IsTrainPlaced axles) span effects
