-- Segments whose flags do not matter to potentials.
use Rattle.std.specs.Prelude.{ℕ, ◌+◌, Bool, true, false, nat_lt, List, slice_index_or, Option, Some, None}
use Rattle.road_graph.specs.declared.segment.Segment.{Segment}
use Rattle.road_graph.specs.Roads.{segment_at}

-- by these potentials of its ends a segment of so many feet leads on no walk of least length: no walk leads on from its end,
-- or a shorter one leads from its beginning
abbrev pub is_slack_by : Option ℕ → ℕ → Option ℕ → Bool
is_slack_by p feet None = true
is_slack_by None feet (Some d) = false
is_slack_by (Some e) feet (Some d) = nat_lt e (feet + d)

-- the segment leads on no walk of least length, whether it is passable or not
unfoldable pub is_slack : List Segment → List (Option ℕ) → ℕ → Bool
is_slack segments potentials i =
    is_slack_by (slice_index_or potentials (segment_at segments i).from None) (segment_at segments i).feet (slice_index_or potentials (segment_at segments i).to None)
