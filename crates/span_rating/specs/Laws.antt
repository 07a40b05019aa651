-- The judgement of a span in terms of the peaks themselves, whatever fractions they are written with.
use Rattle.std.specs.Prelude.{◌≡◌, ℕ, ◌≤◌, ◌↔◌, List}
use Rattle.influence_line.specs.Placed.{Load}
use Rattle.influence_line.specs.Fractions.{Ratio}
use Rattle.influence_line.specs.Peaks.{IsPeakMoment, IsPeakShear}
use Rattle.span_rating.specs.Loading.{AreEffects}
use Rattle.span_rating.specs.Judgement.{IsWithin, fit_of}
use Rattle.span_rating.specs.declared.loading.Effects.{Effects}
use Rattle.span_rating.specs.declared.judgement.Fit.{Fit}
use Rattle.span_rating.specs.declared.judgement.Fit.TheVariants.{Fits, Moment, Shear}

-- an effect fits: there is a fraction that is the truck's peak, there is one that is the design's, and the first is within the rating of the second
pub record EffectFits (IsTruckPeak IsDesignPeak : Ratio → Type 0) (rating : ℕ) : Type 0 where
  pub truck : Ratio
  pub design : Ratio
  pub truck_peak : IsTruckPeak truck
  pub design_peak : IsDesignPeak design
  pub within : IsWithin rating truck design

-- the peak moment of the truck's placements is within the rating of that of the design's
abbrev pub MomentFits : (ℕ → List Load → Type 0) → (ℕ → List Load → Type 0) → ℕ → ℕ → Type 0
MomentFits Truck Design span rating = EffectFits (λ f. IsPeakMoment Truck span f.num f.den) (λ f. IsPeakMoment Design span f.num f.den) rating

-- the same of the end shear
abbrev pub ShearFits : (ℕ → List Load → Type 0) → (ℕ → List Load → Type 0) → ℕ → ℕ → Type 0
ShearFits Truck Design span rating = EffectFits (λ f. IsPeakShear Truck span f.num f.den) (λ f. IsPeakShear Design span f.num f.den) rating

-- each judgement is given exactly where this holds of a moment and a shear: both pass, or the moment does not, or the shear alone does not
pub record IsJudgementOf (MomentPasses ShearPasses : Type 0) (judgement : Fit) : Type 0 where
  pub fits : (judgement ≡ Fits) ↔ (MomentPasses × ShearPasses)
  pub moment : (judgement ≡ Moment) ↔ (MomentPasses → ⊥)
  pub shear : (judgement ≡ Shear) ↔ (MomentPasses × (ShearPasses → ⊥))

-- the judgement of the effects of two sets of placements is that of their peaks, on any span and with any rating
abbrev pub FitIsOfThePeaks : (ℕ → List Load → Type 0) → (ℕ → List Load → Type 0) → Type 0
FitIsOfThePeaks Truck Design =
    (span rating : ℕ) (truck design : Effects) → 1 ≤ span → AreEffects Truck span truck → AreEffects Design span design
    → IsJudgementOf (MomentFits Truck Design span rating) (ShearFits Truck Design span rating) (fit_of truck design rating)
