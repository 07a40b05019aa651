-- The effects of a train and those of the design truck as functions of the span.
use Rattle.std.specs.Prelude.{ℕ, List}
use Rattle.axle_train.specs.declared.axle.Axle.{Axle}
use Rattle.moment_peak.specs.PeakMoment.{peak_moment_of}
use Rattle.shear_peak.specs.PeakShear.{peak_shear_of}
use Rattle.span_rating.specs.declared.loading.Effects.{Effects}
use Rattle.hs20_truck.specs.Design.{design_axles}

-- the effects of a train on a span of so many inches: its peak moment and its peak end shear
unfoldable pub effects_of : List Axle → ℕ → Effects
effects_of axles span = record { moment = peak_moment_of axles span; shear = peak_shear_of axles span }

-- the effects of the HS20-44 design truck on a span of so many inches: those of the truck with its smallest second spacing
unfoldable pub design_of : ℕ → Effects
design_of span = effects_of design_axles span
