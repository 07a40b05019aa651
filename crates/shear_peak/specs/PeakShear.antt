-- The peak end shear of a train on a span as a function of the two.
use Rattle.std.specs.Prelude.{ℕ, List, [], ◌∷◌, map, ℤ}
use Rattle.std.specs.List.{flat_map}
use Rattle.axle_train.specs.declared.axle.Axle.{Axle}
use Rattle.influence_line.specs.Fractions.{Ratio}
use Rattle.influence_line.specs.Greatest.{greatest, lowest_of}
use Rattle.influence_line.specs.Laws.{GivesThePeak, GivesTheOnlyPeak}
use Rattle.influence_line.specs.Placed.{placed}
use Rattle.influence_line.specs.Places.{leads}
use Rattle.influence_line.specs.Peaks.{IsPeakShear, IsTrainPlaced}
use Rattle.influence_line.specs.Reactions.{reaction_sum}
use Rattle.influence_line.specs.declared.placing.End.{End}
use Rattle.influence_line.specs.declared.placing.End.TheVariants.{Left, Right}

-- the reaction at an end with the train at a lead in inches, in pounds
abbrev pub shear_at : List Axle → ℕ → End → ℤ → Ratio
shear_at axles span end lead = record { num = reaction_sum span end (placed 1 lead axles); den = span }

-- the reactions at both ends, at each lead in whole inches
unfoldable pub shears_of : List Axle → ℕ → List Ratio
shears_of axles span = flat_map (λ end. map (shear_at axles span end) (leads span 1)) (Left ∷ Right ∷ [])

-- the peak end shear of a train on a span of so many inches, in pounds, in lowest terms: the greatest of these
-- reactions. That no fraction of an inch gives more is a law
unfoldable pub peak_shear_of : List Axle → ℕ → Ratio
peak_shear_of axles span = lowest_of (greatest (shears_of axles span))

-- this is the peak end shear of a train on a span over all of its placements, fractions of an inch among them
abbrev pub IsPeakShearOf : List Axle → ℕ → Ratio → Type 0
IsPeakShearOf axles span shear = IsPeakShear (IsTrainPlaced axles) span shear.num shear.den

-- what `peak_shear_of` gives is the peak end shear
abbrev pub PeakShearIsAFunction : Type 0
PeakShearIsAFunction = GivesThePeak IsPeakShearOf peak_shear_of

-- no other fraction in lowest terms is
abbrev pub NoOtherIsThePeakShear : Type 0
NoOtherIsThePeakShear = GivesTheOnlyPeak IsPeakShearOf peak_shear_of
