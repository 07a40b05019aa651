-- Whether one effect is within a rating of another does not depend on the fractions that they are written with.
use Rattle.std.proofs.Common.{◌≡◌, ℕ, ◌*◌, ◌≤◌, ◌<◌, ◌↔◌, List, arith, ap}
use Rattle.std.proofs.Math.Nat.{mul-le-mul_left, le_of_mul-le-mul_right, mul-pos}
use Rattle.std.proofs.lemmas.Bool.Decides.{nat_tests}
use Rattle.axle_train.specs.declared.axle.Axle.{Axle}
use Rattle.influence_line.specs.Fractions.{Ratio}
use Rattle.influence_line.specs.Placed.{Load}
use Rattle.influence_line.specs.Peaks.{IsPeakMoment, IsPeakShear, IsTrainPlaced, IsHs20Placed}
use Rattle.influence_line.proofs.Unique.{HasOneValue, moment_has_one, shear_has_one}
use Rattle.span_rating.specs.Loading.{AreEffects}
use Rattle.span_rating.specs.Judgement.{IsWithin, AreWithin, IsMomentOver, IsShearAloneOver, IsLeastRating, fit_of}
use Rattle.span_rating.specs.Laws.{EffectFits, MomentFits, ShearFits, IsJudgementOf, FitIsOfThePeaks}
use Rattle.span_rating.specs.Carrying.{Carries, CarriesFrom}
use Rattle.span_rating.specs.declared.loading.Effects.{Effects}
use Rattle.span_rating.specs.declared.judgement.Fit.TheVariants.{Fits, Moment, Shear}

pub within_from : (rating n d a b n' d' a' b' : ℕ) → n' * d ≡ n * d' → a' * b ≡ a * b' → 0 < d → 0 < b → 1000 * n * b ≤ rating * a * d → 1000 * n' * b' ≤ rating * a' * d'
within_from rating n d a b n' d' a' b' e f p q h =
    le_of_mul-le-mul_right {m = 1000 * n' * b'} {n = rating * a' * d'} {k = d * b} (omega (arith, mul-le-mul_left (d' * b') h, ap (λ t. 1000 * b' * b * t) e, ap (λ t. rating * d * d' * t) f)) (mul-pos p q)

-- one effect is within the rating of another exactly where the peaks that they are fit
pub within_is_fit : (IsTruckPeak IsDesignPeak : Ratio → Type 0) (rating : ℕ) (truck design : Ratio) → HasOneValue IsTruckPeak → HasOneValue IsDesignPeak → IsTruckPeak truck → IsDesignPeak design → IsWithin rating truck design ↔ EffectFits IsTruckPeak IsDesignPeak rating
within_is_fit IsTruckPeak IsDesignPeak rating truck design one_truck one_design is_truck is_design = (
  λ within. record { truck = truck; design = design; truck_peak = is_truck; design_peak = is_design; within = within },
  λ fit. within_from rating fit.truck.num fit.truck.den fit.design.num fit.design.den truck.num truck.den design.num design.den
      (one_truck.same truck fit.truck is_truck fit.truck_peak) (one_design.same design fit.design is_design fit.design_peak)
      (one_truck.some fit.truck fit.truck_peak) (one_design.some fit.design fit.design_peak) fit.within,
)

moment_fits : (Truck Design : ℕ → List Load → Type 0) (span rating : ℕ) (truck design : Effects) → 1 ≤ span → AreEffects Truck span truck → AreEffects Design span design → IsWithin rating truck.moment design.moment ↔ MomentFits Truck Design span rating
moment_fits Truck Design span rating truck design some t d =
    within_is_fit (λ f. IsPeakMoment Truck span f.num f.den) (λ f. IsPeakMoment Design span f.num f.den) rating truck.moment design.moment (moment_has_one Truck span some) (moment_has_one Design span some) t.moment d.moment

shear_fits : (Truck Design : ℕ → List Load → Type 0) (span rating : ℕ) (truck design : Effects) → 1 ≤ span → AreEffects Truck span truck → AreEffects Design span design → IsWithin rating truck.shear design.shear ↔ ShearFits Truck Design span rating
shear_fits Truck Design span rating truck design some t d =
    within_is_fit (λ f. IsPeakShear Truck span f.num f.den) (λ f. IsPeakShear Design span f.num f.den) rating truck.shear design.shear (shear_has_one Truck span some) (shear_has_one Design span some) t.shear d.shear

fits_is : (rating : ℕ) (truck design : Effects) → (fit_of truck design rating ≡ Fits) ↔ AreWithin rating truck design
fits_is rating truck design = (λ e. grind (arith, nat_tests), λ h. grind (arith, nat_tests))

moment_is : (rating : ℕ) (truck design : Effects) → (fit_of truck design rating ≡ Moment) ↔ IsMomentOver rating truck design
moment_is rating truck design = (λ e. grind (arith, nat_tests), λ h. grind (arith, nat_tests))

shear_is : (rating : ℕ) (truck design : Effects) → (fit_of truck design rating ≡ Shear) ↔ IsShearAloneOver rating truck design
shear_is rating truck design = (λ e. grind (arith, nat_tests), λ h. grind (arith, nat_tests))

-- a judgement of effects is that of whatever says the same of each
pub judged : (MomentPasses ShearPasses : Type 0) (rating : ℕ) (truck design : Effects) → IsWithin rating truck.moment design.moment ↔ MomentPasses → IsWithin rating truck.shear design.shear ↔ ShearPasses → IsJudgementOf MomentPasses ShearPasses (fit_of truck design rating)
judged MomentPasses ShearPasses rating truck design moment shear = record {
  fits = (
    λ e. let h = (fits_is rating truck design).0 e in (moment.0 h.0, shear.0 h.1),
    λ fit. (fits_is rating truck design).1 (moment.1 fit.0, shear.1 fit.1),
  );
  moment = (
    λ e fit. (moment_is rating truck design).0 e (moment.1 fit),
    λ none. (moment_is rating truck design).1 (λ within. none (moment.0 within)),
  );
  shear = (
    λ e. let h = (shear_is rating truck design).0 e in (moment.0 h.0, λ fit. h.1 (shear.1 fit)),
    λ h. (shear_is rating truck design).1 (moment.1 h.0, λ within. h.1 (shear.0 within)),
  );
}

pub says_of_peaks : (Truck Design : ℕ → List Load → Type 0) → FitIsOfThePeaks Truck Design
says_of_peaks Truck Design span rating truck design some t d =
    judged (MomentFits Truck Design span rating) (ShearFits Truck Design span rating) rating truck design
    (moment_fits Truck Design span rating truck design some t d) (shear_fits Truck Design span rating truck design some t d)

-- a span carries a truck exactly where its effects are within the rating of the design truck's
pub carries_where_within : (axles : List Axle) (span rating : ℕ) (truck design : Effects) → 1 ≤ span → AreEffects (IsTrainPlaced axles) span truck → AreEffects IsHs20Placed span design → Carries axles span rating ↔ AreWithin rating truck design
carries_where_within axles span rating truck design some t d =
    let moment = moment_fits (IsTrainPlaced axles) IsHs20Placed span rating truck design some t d in
    let shear = shear_fits (IsTrainPlaced axles) IsHs20Placed span rating truck design some t d in
    (λ is. (moment.1 is.moment, shear.1 is.shear), λ h. record { moment = moment.0 h.0; shear = shear.0 h.1 })

-- the least rating that a truck's effects are within is the least with which the span carries the truck
pub carries_from_least : (axles : List Axle) (span least : ℕ) (truck design : Effects) → 1 ≤ span → AreEffects (IsTrainPlaced axles) span truck → AreEffects IsHs20Placed span design → IsLeastRating truck design least → CarriesFrom axles span least
carries_from_least axles span least truck design some t d is rating long =
    let same = carries_where_within axles span rating truck design some t d in
    let from = is rating long in
    (λ carries. from.0 (same.0 carries), λ h. same.1 (from.1 h))
