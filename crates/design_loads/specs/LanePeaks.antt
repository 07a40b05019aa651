-- The peak moment and the peak end shear of the lane load on a simple span.
use Rattle.std.specs.Prelude.{ℕ, ◌*◌, ◌≤◌}
use Rattle.influence_line.specs.Fractions.{Ratio, IsRatio}
use Rattle.influence_line.specs.declared.placing.End.{End}
use Rattle.span_rating.specs.declared.loading.Effects.{Effects}
use Rattle.span_rating.specs.Loading.{AreSmall}
use Rattle.design_loads.specs.Lane.{LaneLoad, IsLanePlaced, lane_moment, lane_reaction}

-- f is at most num over den, by their cross products
abbrev pub IsUpTo : Ratio → ℕ → ℕ → Type 0
IsUpTo f num den = f.num * den ≤ num * f.den

-- num over den is the greatest moment of the lane load at any section of a span: it is a fraction, some placement reaches it at
-- some section, and none exceeds it at any
pub record IsPeakLaneMoment (span num den : ℕ) : Type 0 where
  pub some : 1 ≤ den
  pub reached : (section : ℕ) × (lane : LaneLoad) × (section ≤ lane.q * span) × IsLanePlaced span lane
      × IsRatio (lane_moment span section lane) num den
  pub greatest : (section : ℕ) (lane : LaneLoad) → section ≤ lane.q * span → IsLanePlaced span lane
      → IsUpTo (lane_moment span section lane) num den

-- num over den is the greatest reaction of the lane load at either support: it is a fraction, some placement reaches it at some
-- end, and none exceeds it at either
pub record IsPeakLaneShear (span num den : ℕ) : Type 0 where
  pub some : 1 ≤ den
  pub reached : (end : End) × (lane : LaneLoad) × IsLanePlaced span lane × IsRatio (lane_reaction span end lane) num den
  pub greatest : (end : End) (lane : LaneLoad) → IsLanePlaced span lane → IsUpTo (lane_reaction span end lane) num den

-- these are the peak moment and the peak end shear of the lane load on a span, in lowest terms and of the size that peaks have
pub record AreLaneEffects (span : ℕ) (effects : Effects) : Type 0 where
  pub moment : IsPeakLaneMoment span effects.moment.num effects.moment.den
  pub shear : IsPeakLaneShear span effects.shear.num effects.shear.den
  pub small : AreSmall effects
