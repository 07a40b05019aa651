-- The lane load of HS20-44 (AASHTO Standard Specifications for Highway Bridges, 3.7.6 and Figure 3.7.6B): 640 lb per foot on any
-- parts of the span, and one concentrated load on it, of 18,000 lb for the moment and of 26,000 lb for the shear.
-- Positions are whole numbers of units of 1/q inch from the left support, for a scale q; n is the span in these units.
use Rattle.std.specs.Prelude.{ℕ, ◌+◌, ◌-◌, ◌*◌, ◌<◌, ◌≤◌, List, [], ◌∷◌, sum_by, nat_le, if◌then◌else◌, pos}
use Rattle.influence_line.specs.Fractions.{Ratio}
use Rattle.influence_line.specs.Placed.{moment_line}
use Rattle.influence_line.specs.Reactions.{reaction_line}
use Rattle.influence_line.specs.declared.placing.End.{End}
use Rattle.influence_line.specs.declared.placing.End.TheVariants.{Left, Right}

-- an interval of the span
pub record Interval : Type 0 where
  pub from : ℕ
  pub to : ℕ

-- intervals in order, from `least` on and within the span: each has some length, and none begins before the one in front of it ends
abbrev pub AreInOrder : ℕ → ℕ → List Interval → Type 0
AreInOrder n least [] = least ≤ n
AreInOrder n least (i ∷ rest) = (least ≤ i.from) × (i.from < i.to) × AreInOrder n i.to rest

-- a lane load: the scale q of its positions, where its concentrated load stands, and on which intervals its uniform load lies
pub record LaneLoad : Type 0 where
  pub q : ℕ
  pub at : ℕ
  pub loaded : List Interval

-- it is a placement on a span of so many inches: the scale is at least 1, and all of the load is on the span. As q is any number,
-- fractions of an inch are among its positions
pub record IsLanePlaced (span : ℕ) (lane : LaneLoad) : Type 0 where
  pub scale : 1 ≤ lane.q
  pub on : lane.at ≤ lane.q * span
  pub loaded : AreInOrder (lane.q * span) 0 lane.loaded

-- The influence line of the moment at section r is a triangle. Left of the section it rises as x * (n - r): twice the area under it
-- from a to b there
abbrev pub rising_area : ℕ → ℕ → ℕ → ℕ → ℕ
rising_area n r a b = (n - r) * (b * b - a * a)

-- right of the section it falls as r * (n - x): twice the area under it from a to b there
abbrev pub falling_area : ℕ → ℕ → ℕ → ℕ → ℕ
falling_area n r a b = r * ((n - a) * (n - a) - (n - b) * (n - b))

-- twice the area under the influence line of the moment at section r, over an interval; one with the section inside is parted there
abbrev pub moment_area : ℕ → ℕ → Interval → ℕ
moment_area n r i =
    if nat_le i.to r then rising_area n r i.from i.to
    else (if nat_le r i.from then falling_area n r i.from i.to
    else rising_area n r i.from r + falling_area n r r i.to)

-- twice the area under the influence line of the reaction at an end, over an interval
abbrev pub reaction_area : ℕ → End → Interval → ℕ
reaction_area n Left i = (n - i.from) * (n - i.from) - (n - i.to) * (n - i.to)
reaction_area n Right i = i.to * i.to - i.from * i.from

-- the moment of a lane load at section r, in pounds times inches. The uniform load gives its pounds per unit, 640 / (12 * q),
-- times the area under the influence line over the intervals, and the concentrated load gives 18,000 lb times the line where it
-- stands
abbrev pub lane_moment : ℕ → ℕ → LaneLoad → Ratio
lane_moment span r lane =
    let n = lane.q * span in
    record {
      num = 80 * sum_by (moment_area n r) lane.loaded + 54000 * (lane.q * moment_line n r (pos lane.at));
      den = 3 * lane.q * lane.q * lane.q * span;
    }

-- the reaction of a lane load at an end, in pounds: the same with the influence line of the reaction, and 26,000 lb
abbrev pub lane_reaction : ℕ → End → LaneLoad → Ratio
lane_reaction span end lane =
    let n = lane.q * span in
    record {
      num = 80 * sum_by (reaction_area n end) lane.loaded + 78000 * (lane.q * reaction_line n end (pos lane.at));
      den = 3 * lane.q * lane.q * span;
    }
