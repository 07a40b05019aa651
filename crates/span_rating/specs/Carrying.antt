-- When a span carries a truck, and at which ratings.
use Rattle.std.specs.Prelude.{ℕ, ◌≤◌, ◌↔◌, List}
use Rattle.axle_train.specs.declared.axle.Axle.{Axle}
use Rattle.influence_line.specs.Peaks.{IsTrainPlaced, IsHs20Placed}
use Rattle.span_rating.specs.Laws.{MomentFits, ShearFits}

-- a span of so many inches with this rating carries the truck: its peak moment and its peak end shear, over all places of
-- its axles, are at most so many thousandths of those of the HS20-44 truck
pub record Carries (axles : List Axle) (inches rating : ℕ) : Type 0 where
  pub moment : MomentFits (IsTrainPlaced axles) IsHs20Placed inches rating
  pub shear : ShearFits (IsTrainPlaced axles) IsHs20Placed inches rating

-- the least rating with which a span of so many inches carries the truck: of the ratings that a span may have, it carries it
-- with exactly those from this one on
abbrev pub CarriesFrom : List Axle → ℕ → ℕ → Type 0
CarriesFrom axles inches least = (rating : ℕ) → rating ≤ 100000 → Carries axles inches rating ↔ least ≤ rating
