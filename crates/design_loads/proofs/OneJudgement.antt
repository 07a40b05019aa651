-- Whether a truck's effects are within the greatest of the design loads does not depend on the fractions that either are written
-- with.
use Rattle.std.proofs.Common.{ℕ, ◌≤◌, ◌↔◌, List}
use Rattle.influence_line.specs.Fractions.{Ratio}
use Rattle.influence_line.specs.Placed.{Load}
use Rattle.influence_line.specs.Peaks.{IsPeakMoment, IsPeakShear}
use Rattle.span_rating.specs.declared.loading.Effects.{Effects}
use Rattle.span_rating.specs.Loading.{AreEffects}
use Rattle.span_rating.specs.Judgement.{IsWithin}
use Rattle.span_rating.proofs.OneValue.{within_is_fit, judged}
use Rattle.design_loads.specs.Greatest.{AreGreatest, IsGreatest, IsGreatestMoment, IsGreatestShear, effects_in, IsPeakMomentBy, IsPeakShearBy}
use Rattle.design_loads.specs.Fitting.{MomentFitsGreatest, ShearFitsGreatest, FitIsOfTheGreatest}
use Rattle.design_loads.specs.declared.governing.By.{By}
use Rattle.design_loads.specs.declared.governing.GreatestEffects.{GreatestEffects}
use Rattle.influence_line.proofs.Unique.{HasOneValue, moment_has_one, shear_has_one}
use Rattle.design_loads.proofs.OneGreatest.{HaveOneValue, greatest_same, moments_have_one, shears_have_one}

-- the greatest of the peaks has one value too
greatest_has_one : (IsPeakBy : By → Ratio → Type 0) → HaveOneValue IsPeakBy
    → HasOneValue (λ f. (by : By) × IsGreatest IsPeakBy f by)
greatest_has_one IsPeakBy one = record {
  some = λ f is. (one is.0).some f is.1.reached;
  same = λ f g is other. greatest_same IsPeakBy f g is.0 other.0 one is.1 other.1;
}

moment_fits : (Truck : ℕ → List Load → Type 0) (span rating : ℕ) (truck : Effects) (design : GreatestEffects)
    → 1 ≤ span → AreEffects Truck span truck → AreGreatest span design
    → IsWithin rating truck.moment design.moment ↔ MomentFitsGreatest Truck span rating
moment_fits Truck span rating truck design some t d =
    within_is_fit (λ f. IsPeakMoment Truck span f.num f.den) (λ f. (by : By) × IsGreatestMoment span f by) rating
    truck.moment design.moment
    (moment_has_one Truck span some) (greatest_has_one (IsPeakMomentBy span) (moments_have_one span some))
    t.moment (design.moment_by, d.moment)

shear_fits : (Truck : ℕ → List Load → Type 0) (span rating : ℕ) (truck : Effects) (design : GreatestEffects)
    → 1 ≤ span → AreEffects Truck span truck → AreGreatest span design
    → IsWithin rating truck.shear design.shear ↔ ShearFitsGreatest Truck span rating
shear_fits Truck span rating truck design some t d =
    within_is_fit (λ f. IsPeakShear Truck span f.num f.den) (λ f. (by : By) × IsGreatestShear span f by) rating
    truck.shear design.shear
    (shear_has_one Truck span some) (greatest_has_one (IsPeakShearBy span) (shears_have_one span some))
    t.shear (design.shear_by, d.shear)

pub fit_is_of_the_greatest : (Truck : ℕ → List Load → Type 0) → FitIsOfTheGreatest Truck
fit_is_of_the_greatest Truck span rating truck design some t d =
    judged (MomentFitsGreatest Truck span rating) (ShearFitsGreatest Truck span rating) rating truck (effects_in design)
    (moment_fits Truck span rating truck design some t d) (shear_fits Truck span rating truck design some t d)
