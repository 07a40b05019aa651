-- The peak moment of a train on a span as a function of the two.
use Rattle.std.specs.Prelude.{ℕ, ◌+◌, ◌*◌, List, map, ℤ}
use Rattle.std.specs.List.{flat_map, range_with_len}
use Rattle.axle_train.specs.declared.axle.Axle.{Axle}
use Rattle.influence_line.specs.Fractions.{Ratio}
use Rattle.influence_line.specs.Greatest.{greatest, lowest_of}
use Rattle.influence_line.specs.Laws.{GivesThePeak, GivesTheOnlyPeak}
use Rattle.influence_line.specs.Placed.{moment_sum, placed}
use Rattle.influence_line.specs.Places.{leads}
use Rattle.influence_line.specs.Peaks.{IsPeakMoment, IsTrainPlaced}
use Rattle.moment_peak.specs.Runs.{weight_in}

-- the moment at a section with the train at a lead, both in units of 1/q inch, in pounds times inches
abbrev pub moment_at : List Axle → ℕ → ℕ → ℕ → ℤ → Ratio
moment_at axles span q section lead =
    record { num = moment_sum (q * span) section (placed q lead axles); den = q * q * span }

-- the moments at each section and each lead in units of 1/q inch
abbrev pub moments_in : List Axle → ℕ → ℕ → List Ratio
moments_in axles span q =
    flat_map (λ section. map (moment_at axles span q section) (leads span q)) (range_with_len 0 (q * span + 1))

-- these for each q up to twice the train's weight in pounds
unfoldable pub moments_of : List Axle → ℕ → List Ratio
moments_of axles span = flat_map (moments_in axles span) (range_with_len 1 (2 * weight_in axles))

-- the peak moment of a train on a span of so many inches, in pounds times inches, in lowest terms: the greatest
-- of these moments. That no finer unit gives more is a law
unfoldable pub peak_moment_of : List Axle → ℕ → Ratio
peak_moment_of axles span = lowest_of (greatest (moments_of axles span))

-- this is the peak moment of a train on a span over all of its placements, fractions of an inch among them
abbrev pub IsPeakMomentOf : List Axle → ℕ → Ratio → Type 0
IsPeakMomentOf axles span moment = IsPeakMoment (IsTrainPlaced axles) span moment.num moment.den

-- what `peak_moment_of` gives is the peak moment
abbrev pub PeakMomentIsAFunction : Type 0
PeakMomentIsAFunction = GivesThePeak IsPeakMomentOf peak_moment_of

-- no other fraction in lowest terms is
abbrev pub NoOtherIsThePeakMoment : Type 0
NoOtherIsThePeakMoment = GivesTheOnlyPeak IsPeakMomentOf peak_moment_of
