-- The greatest effects of the three design loads on a span, and the load that each is of.
use Rattle.std.specs.Prelude.{ℕ, ◌*◌, ◌<◌}
use Rattle.influence_line.specs.Fractions.{Ratio}
use Rattle.influence_line.specs.Peaks.{IsPeakMoment, IsPeakShear, IsTrainPlaced, IsHs20Placed}
use Rattle.span_rating.specs.declared.loading.Effects.{Effects}
use Rattle.span_rating.specs.Loading.{AreSmall}
use Rattle.design_loads.specs.LanePeaks.{IsUpTo, IsPeakLaneMoment, IsPeakLaneShear}
use Rattle.design_loads.specs.Military.{military_axles}
use Rattle.design_loads.specs.declared.governing.By.{By}
use Rattle.design_loads.specs.declared.governing.By.TheVariants.{Truck, Lane, Military}
use Rattle.design_loads.specs.declared.governing.GreatestEffects.{GreatestEffects}

-- the place of a design load in the order truck, lane load, military loading
abbrev pub order_of_load : By → ℕ
order_of_load Truck = 0
order_of_load Lane = 1
order_of_load Military = 2

-- one design load comes before another in the order truck, lane load, military loading
abbrev pub LoadComesBefore : By → By → Type 0
LoadComesBefore one other = order_of_load one < order_of_load other

-- a fraction is the peak moment of a design load on a span, over all of its placements
abbrev pub IsPeakMomentBy : ℕ → By → Ratio → Type 0
IsPeakMomentBy span Truck f = IsPeakMoment IsHs20Placed span f.num f.den
IsPeakMomentBy span Lane f = IsPeakLaneMoment span f.num f.den
IsPeakMomentBy span Military f = IsPeakMoment (IsTrainPlaced military_axles) span f.num f.den

-- the same of its peak end shear
abbrev pub IsPeakShearBy : ℕ → By → Ratio → Type 0
IsPeakShearBy span Truck f = IsPeakShear IsHs20Placed span f.num f.den
IsPeakShearBy span Lane f = IsPeakLaneShear span f.num f.den
IsPeakShearBy span Military f = IsPeakShear (IsTrainPlaced military_axles) span f.num f.den

-- there is such a peak, and it is at most an effect
abbrev pub HasPeakUpTo : (Ratio → Type 0) → Ratio → Type 0
HasPeakUpTo IsPeak effect = (peak : Ratio) × IsPeak peak × IsUpTo peak effect.num effect.den

-- there is such a peak, and it is below an effect
abbrev pub HasPeakBelow : (Ratio → Type 0) → Ratio → Type 0
HasPeakBelow IsPeak effect = (peak : Ratio) × IsPeak peak × (peak.num * effect.den < effect.num * peak.den)

-- an effect is the greatest of the three peaks, and the design load named is the first that reaches it: it is the peak of that
-- load, no load's peak exceeds it, and the peaks of the loads before that one are below it
pub record IsGreatest (IsPeakBy : By → Ratio → Type 0) (effect : Ratio) (by : By) : Type 0 where
  pub reached : IsPeakBy by effect
  pub most : (other : By) → HasPeakUpTo (IsPeakBy other) effect
  pub first : (other : By) → LoadComesBefore other by → HasPeakBelow (IsPeakBy other) effect

-- the greatest moment of the three design loads on a span, and the first load that reaches it
abbrev pub IsGreatestMoment : ℕ → Ratio → By → Type 0
IsGreatestMoment span = IsGreatest (IsPeakMomentBy span)

-- the same of the end shear
abbrev pub IsGreatestShear : ℕ → Ratio → By → Type 0
IsGreatestShear span = IsGreatest (IsPeakShearBy span)

-- the two effects, without the loads that they are of
abbrev pub effects_in : GreatestEffects → Effects
effects_in greatest = record { moment = greatest.moment; shear = greatest.shear }

-- these are the greatest effects on a span, each with the first load that reaches it, in lowest terms
pub record AreGreatest (span : ℕ) (greatest : GreatestEffects) : Type 0 where
  pub moment : IsGreatestMoment span greatest.moment greatest.moment_by
  pub shear : IsGreatestShear span greatest.shear greatest.shear_by
  pub small : AreSmall (effects_in greatest)
