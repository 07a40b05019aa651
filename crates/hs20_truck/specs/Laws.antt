-- The functions of the effects in the subject's own words: they give the peaks over all placements, and nothing else does.
use Rattle.std.specs.Prelude.{◌≡◌, ℕ, ◌≤◌, List}
use Rattle.axle_train.specs.declared.axle.Axle.{Axle}
use Rattle.axle_train.specs.Bounds.{IsTrain}
use Rattle.influence_line.specs.Peaks.{IsTrainPlaced, IsHs20Placed}
use Rattle.span_rating.specs.declared.loading.Effects.{Effects}
use Rattle.span_rating.specs.Loading.{AreEffects}
use Rattle.hs20_truck.specs.Effects.{effects_of, design_of}

-- the effects of a train on a span are its peaks, over all of its placements, fractions of an inch among them
abbrev pub EffectsAreThePeaks : Type 0
EffectsAreThePeaks = (axles : List Axle) (span : ℕ) → IsTrain axles → 1 ≤ span → span ≤ 6000 → AreEffects (IsTrainPlaced axles) span (effects_of axles span)

-- the design effects on a span are the peaks of the HS20-44 truck, over all of its placements and second spacings
abbrev pub DesignIsThePeaks : Type 0
DesignIsThePeaks = (span : ℕ) → 1 ≤ span → span ≤ 6000 → AreEffects IsHs20Placed span (design_of span)

-- no other effects are the peaks of a train on a span
abbrev pub EffectsAreOne : Type 0
EffectsAreOne = (axles : List Axle) (span : ℕ) (effects : Effects) → IsTrain axles → 1 ≤ span → span ≤ 6000 → AreEffects (IsTrainPlaced axles) span effects → effects ≡ effects_of axles span

-- no other effects are those of the design truck on a span
abbrev pub DesignIsOne : Type 0
DesignIsOne = (span : ℕ) (effects : Effects) → 1 ≤ span → span ≤ 6000 → AreEffects IsHs20Placed span effects → effects ≡ design_of span
