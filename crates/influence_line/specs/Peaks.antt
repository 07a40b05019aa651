-- Peak moment and peak end shear over a set of placements, and the placements of a train and of the HS20-44 truck.
-- A set of placements is a predicate on a scale q and a list of loads, whose positions are in units of 1/q inch. As q is any number, fractions of an inch are among these positions.
use Rattle.std.specs.Prelude.{◌≡◌, ℕ, ◌+◌, ◌*◌, ◌≤◌, List, [], ◌∷◌, ℤ, pos, ◌+ℤ◌}
use Rattle.axle_train.specs.declared.axle.Axle.{Axle}
use Rattle.influence_line.specs.Placed.{Load, moment_sum, placed}
use Rattle.influence_line.specs.Reactions.{reaction_sum}
use Rattle.influence_line.specs.declared.placing.End.{End}

-- num over den is the greatest moment at any section under any allowed placement, in pounds times inches: it is a fraction, some scale, section and placement reach it, and none exceeds it
pub record IsPeakMoment (Allowed : ℕ → List Load → Type 0) (span num den : ℕ) : Type 0 where
  pub some : 1 ≤ den
  pub reached : (q : ℕ) × (section : ℕ) × (loads : List Load) × (1 ≤ q) × (section ≤ q * span) × Allowed q loads × (moment_sum (q * span) section loads * den ≡ num * (q * q * span))
  pub greatest : (q section : ℕ) (loads : List Load) → 1 ≤ q → section ≤ q * span → Allowed q loads → moment_sum (q * span) section loads * den ≤ num * (q * q * span)

-- num over den is the greatest reaction of either support under any allowed placement, in pounds: it is a fraction, some scale, end and placement reach it, and none exceeds it
pub record IsPeakShear (Allowed : ℕ → List Load → Type 0) (span num den : ℕ) : Type 0 where
  pub some : 1 ≤ den
  pub reached : (q : ℕ) × (end : End) × (loads : List Load) × (1 ≤ q) × Allowed q loads × (reaction_sum (q * span) end loads * den ≡ num * (q * span))
  pub greatest : (q : ℕ) (end : End) (loads : List Load) → 1 ≤ q → Allowed q loads → reaction_sum (q * span) end loads * den ≤ num * (q * span)

-- the placements of a train: it stands at any lead, on the span, partly off it or wholly
abbrev pub IsTrainPlaced : List Axle → ℕ → List Load → Type 0
IsTrainPlaced axles q loads = (lead : ℤ) × (loads ≡ placed q lead axles)

-- the HS20-44 truck (AASHTO Standard Specifications for Highway Bridges, 3.7): 8,000 lb at `lead`, 32,000 lb 14 feet behind it, and 32,000 lb behind these by its second spacing, which is in units of 1/q inch
abbrev pub hs20_loads : ℕ → ℤ → ℕ → List Load
hs20_loads q lead second = record { at = lead; weight = 8000 } ∷ record { at = lead +ℤ pos (168 * q); weight = 32000 } ∷ record { at = lead +ℤ pos (168 * q + second); weight = 32000 } ∷ []

-- the placements of the HS20-44 truck: it stands at any lead, and its second spacing is anything from 14 to 30 feet, fractions of an inch among these
abbrev pub IsHs20Placed : ℕ → List Load → Type 0
IsHs20Placed q loads = (lead : ℤ) × (second : ℕ) × (168 * q ≤ second) × (second ≤ 360 * q) × (loads ≡ hs20_loads q lead second)
