-- The effects of a train and those of the design truck are their peaks, and no others are. The crates above turn peaks into these functions by the lemmas here.
use Rattle.std.proofs.Common.{◌≡◌, ℕ, ◌≤◌, List, arith, refl}
use Rattle.axle_train.specs.Bounds.{IsTrain}
use Rattle.influence_line.specs.Placed.{Load}
use Rattle.influence_line.specs.Peaks.{IsTrainPlaced, IsHs20Placed}
use Rattle.influence_line.proofs.Unique.{moment_unique, shear_unique}
use Rattle.moment_peak.proofs.PeakOfPlaces.{peak_moment_is}
use Rattle.shear_peak.proofs.PeakOfPlaces.{peak_shear_is}
use Rattle.span_rating.specs.declared.loading.Effects.{Effects}
use Rattle.span_rating.specs.Loading.{AreEffects}
use Rattle.hs20_truck.specs.Design.{design_axles}
use Rattle.hs20_truck.specs.Effects.{effects_of, design_of}
use Rattle.hs20_truck.specs.Laws.{EffectsAreThePeaks, DesignIsThePeaks, EffectsAreOne, DesignIsOne}
use Rattle.hs20_truck.proofs.Spacing.{moment_of_all}
use Rattle.hs20_truck.proofs.Ends.{shear_of_all}

pub effects_are_the_peaks : EffectsAreThePeaks
unfolding effects_of
effects_are_the_peaks axles span train some long =
    let moment = peak_moment_is axles span train (some, long) in
    let shear = peak_shear_is axles span train (some, long) in
    record { moment = moment.0; shear = shear.0; small = record { moment = moment.1; shear = shear.1 } }

-- the peaks of the truck with the smallest second spacing are those of all spacings
pub of_all_spacings : (span : ℕ) (e : Effects) → AreEffects (IsTrainPlaced design_axles) span e → AreEffects IsHs20Placed span e
of_all_spacings span e closest = record {
  moment = moment_of_all span e.moment.num e.moment.den closest.moment;
  shear = shear_of_all span e.shear.num e.shear.den closest.shear;
  small = closest.small;
}

pub design_is_train : IsTrain design_axles
design_is_train = record {
  many = omega arith;
  few = omega arith;
  first = refl;
  rising = (omega arith, (omega arith, (omega arith, tt)));
  each = (omega arith, omega arith, omega arith, (omega arith, omega arith, omega arith, (omega arith, omega arith, omega arith, tt)));
  gross = omega arith;
}

pub design_is_the_peaks : DesignIsThePeaks
unfolding design_of
design_is_the_peaks span some long =
    of_all_spacings span (effects_of design_axles span) (effects_are_the_peaks design_axles span design_is_train some long)

-- one set of placements has one pair of effects
same_effects : (Allowed : ℕ → List Load → Type 0) (span : ℕ) (e f : Effects) → 1 ≤ span → AreEffects Allowed span e → AreEffects Allowed span f → e ≡ f
same_effects Allowed span e f some a b = λ i. record {
  moment = moment_unique Allowed span e.moment f.moment some a.small.moment.lowest b.small.moment.lowest a.moment b.moment i;
  shear = shear_unique Allowed span e.shear f.shear some a.small.shear.lowest b.small.shear.lowest a.shear b.shear i;
}

-- what are the peaks of a train are its effects
pub effects_are_one : EffectsAreOne
effects_are_one axles span e train some long peaks =
    same_effects (IsTrainPlaced axles) span e (effects_of axles span) some peaks (effects_are_the_peaks axles span train some long)

-- what are the peaks of the design truck are the design effects
pub design_is_one : DesignIsOne
design_is_one span e some long peaks =
    same_effects IsHs20Placed span e (design_of span) some peaks (design_is_the_peaks span some long)
