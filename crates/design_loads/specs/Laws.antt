-- The areas under the influence lines, and the functions of the span, in the subject's own words.
use Rattle.std.specs.Prelude.{◌≡◌, ℕ, ◌+◌, ◌-◌, ◌*◌, ◌≤◌, pos, ◌⊎◌}
use Rattle.influence_line.specs.Placed.{moment_line}
use Rattle.influence_line.specs.Reactions.{reaction_line}
use Rattle.influence_line.specs.declared.placing.End.{End}
use Rattle.span_rating.specs.declared.loading.Effects.{Effects}
use Rattle.design_loads.specs.Lane.{moment_area, reaction_area}
use Rattle.design_loads.specs.LanePeaks.{AreLaneEffects}
use Rattle.design_loads.specs.Greatest.{AreGreatest}
use Rattle.design_loads.specs.SpanEffects.{lane_of, greatest_of}
use Rattle.design_loads.specs.declared.governing.GreatestEffects.{GreatestEffects}

-- on either side of the section the influence line of the moment is straight, so twice the area under it is the length of the
-- interval times the sum of the line at its two ends
abbrev pub MomentAreaIsUnderTheLine : Type 0
MomentAreaIsUnderTheLine =
    (n r a b : ℕ) → r ≤ n → a ≤ b → b ≤ n → (b ≤ r) ⊎ (r ≤ a)
    → moment_area n r (record { from = a; to = b }) ≡ (b - a) * (moment_line n r (pos a) + moment_line n r (pos b))

-- an interval with the section inside is parted there
abbrev pub MomentAreaIsParted : Type 0
MomentAreaIsParted =
    (n r a b : ℕ) → a ≤ r → r ≤ b → b ≤ n
    → moment_area n r (record { from = a; to = b })
    ≡ moment_area n r (record { from = a; to = r }) + moment_area n r (record { from = r; to = b })

-- the influence line of a reaction is straight over the whole span
abbrev pub ReactionAreaIsUnderTheLine : Type 0
ReactionAreaIsUnderTheLine =
    (n : ℕ) (end : End) (a b : ℕ) → a ≤ b → b ≤ n
    → reaction_area n end (record { from = a; to = b }) ≡ (b - a) * (reaction_line n end (pos a) + reaction_line n end (pos b))

-- the effects of the lane load on a span are its peaks, over all of its placements
abbrev pub LaneIsThePeaks : Type 0
LaneIsThePeaks = (span : ℕ) → 1 ≤ span → span ≤ 6000 → AreLaneEffects span (lane_of span)

-- no other effects are
abbrev pub LaneIsOne : Type 0
LaneIsOne = (span : ℕ) (effects : Effects) → 1 ≤ span → span ≤ 6000 → AreLaneEffects span effects → effects ≡ lane_of span

-- the greatest effects on a span are those of the three design loads, over all of their placements, each with the first load that
-- reaches it
abbrev pub GreatestIsOfThePeaks : Type 0
GreatestIsOfThePeaks = (span : ℕ) → 1 ≤ span → span ≤ 6000 → AreGreatest span (greatest_of span)

-- no other effects with loads are
abbrev pub GreatestIsOne : Type 0
GreatestIsOne =
    (span : ℕ) (greatest : GreatestEffects) → 1 ≤ span → span ≤ 6000 → AreGreatest span greatest → greatest ≡ greatest_of span
