-- When a span with a rating carries a truck.
use Rattle.std.specs.Prelude.{ℕ, ◌*◌, ◌≤◌, ◌↔◌, nat_le, if◌then◌else◌}
use Rattle.influence_line.specs.Fractions.{Ratio}
use Rattle.span_rating.specs.declared.loading.Effects.{Effects}
use Rattle.span_rating.specs.declared.judgement.Fit.{Fit}
use Rattle.span_rating.specs.declared.judgement.Fit.TheVariants.{Fits, Moment, Shear}

-- an effect is at most `rating` thousandths of the design truck's: their cross products say so, and equality passes
abbrev pub IsWithin : ℕ → Ratio → Ratio → Type 0
IsWithin rating effect design = 1000 * effect.num * design.den ≤ rating * design.num * effect.den

-- both effects are within the rating
abbrev pub AreWithin : ℕ → Effects → Effects → Type 0
AreWithin rating truck design = IsWithin rating truck.moment design.moment × IsWithin rating truck.shear design.shear

-- the least rating that an effect is within: of the ratings that a span may have, it is within exactly those from this one on
abbrev pub IsLeastWithin : Ratio → Ratio → ℕ → Type 0
IsLeastWithin effect design least = (rating : ℕ) → rating ≤ 100000 → IsWithin rating effect design ↔ least ≤ rating

-- the least rating that both effects are within
abbrev pub IsLeastRating : Effects → Effects → ℕ → Type 0
IsLeastRating truck design least = (rating : ℕ) → rating ≤ 100000 → AreWithin rating truck design ↔ least ≤ rating

-- the moment is over the rating
abbrev pub IsMomentOver : ℕ → Effects → Effects → Type 0
IsMomentOver rating truck design = IsWithin rating truck.moment design.moment → ⊥

-- the moment is within the rating, and the shear is over it
abbrev pub IsShearAloneOver : ℕ → Effects → Effects → Type 0
IsShearAloneOver rating truck design =
    IsWithin rating truck.moment design.moment × (IsWithin rating truck.shear design.shear → ⊥)

-- the judgement: the moment is over its rating, or else the shear is, or else the span carries the truck
abbrev pub fit_of : Effects → Effects → ℕ → Fit
fit_of truck design rating =
    if nat_le (1000 * truck.moment.num * design.moment.den) (rating * design.moment.num * truck.moment.den)
    then (if nat_le (1000 * truck.shear.num * design.shear.den) (rating * design.shear.num * truck.shear.den) then Fits else Shear)
    else Moment
