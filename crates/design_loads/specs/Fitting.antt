-- The judgement of a truck against the greatest of the design loads in terms of the peaks themselves, whatever fractions they are
-- written with.
use Rattle.std.specs.Prelude.{ℕ, ◌≤◌, List}
use Rattle.influence_line.specs.Placed.{Load}
use Rattle.influence_line.specs.Peaks.{IsPeakMoment, IsPeakShear}
use Rattle.span_rating.specs.Loading.{AreEffects}
use Rattle.span_rating.specs.Judgement.{fit_of}
use Rattle.span_rating.specs.Laws.{EffectFits, IsJudgementOf}
use Rattle.span_rating.specs.declared.loading.Effects.{Effects}
use Rattle.design_loads.specs.Greatest.{AreGreatest, IsGreatestMoment, IsGreatestShear, effects_in}
use Rattle.design_loads.specs.declared.governing.By.{By}
use Rattle.design_loads.specs.declared.governing.GreatestEffects.{GreatestEffects}

-- the peak moment of a set of placements is within the rating of the greatest moment of the design loads
abbrev pub MomentFitsGreatest : (ℕ → List Load → Type 0) → ℕ → ℕ → Type 0
MomentFitsGreatest Truck span rating =
    EffectFits (λ f. IsPeakMoment Truck span f.num f.den) (λ f. (by : By) × IsGreatestMoment span f by) rating

-- the same of the end shear
abbrev pub ShearFitsGreatest : (ℕ → List Load → Type 0) → ℕ → ℕ → Type 0
ShearFitsGreatest Truck span rating =
    EffectFits (λ f. IsPeakShear Truck span f.num f.den) (λ f. (by : By) × IsGreatestShear span f by) rating

-- the judgement of the effects of any set of placements is that of the peaks, on any span and with any rating
abbrev pub FitIsOfTheGreatest : (ℕ → List Load → Type 0) → Type 0
FitIsOfTheGreatest Truck =
    (span rating : ℕ) (truck : Effects) (design : GreatestEffects)
    → 1 ≤ span → AreEffects Truck span truck → AreGreatest span design
    → IsJudgementOf (MomentFitsGreatest Truck span rating) (ShearFitsGreatest Truck span rating) (fit_of truck (effects_in design) rating)
