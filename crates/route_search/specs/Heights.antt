-- Heights of nodes, which bound the lengths of walks from below.
use Rattle.std.specs.Prelude.{◌≡◌, ℕ, ◌+◌, ◌<◌, ◌≤◌, List, [], length, slice_get, slice_index_or, Option, Some, None, min}
use Rattle.road_graph.specs.declared.segment.Segment.{Segment}
use Rattle.road_graph.specs.Roads.{Roads}
use Rattle.route_search.specs.Walks.{ArePotentials, IsWalk, every, feet_of}

-- how many columns of heights there are
abbrev pub columns : ℕ
columns = 16

-- the height of a node in a column, of the rows of all nodes; 0 where there is none
abbrev pub height_at : List (List ℕ) → ℕ → ℕ → ℕ
height_at rows v j = slice_index_or (slice_index_or rows v []) j 0

-- along no segment a height falls by more than the segment's feet
abbrev pub AreHeights : List Segment → List (List ℕ) → Type 0
AreHeights segments rows = (i j : ℕ) (s : Segment) → j < columns → slice_get segments i ≡ Some s → height_at rows s.from j ≤ s.feet + height_at rows s.to j

-- no walk from a to b is shorter, whatever may be passed
abbrev pub IsBound : Roads → ℕ → ℕ → ℕ → Type 0
IsBound roads a b feet = (path : List ℕ) → IsWalk roads.segments every a b path → feet ≤ feet_of roads.segments path

-- a height in each of the columns falls by no more than `most`
abbrev pub FallsByAtMost : List ℕ → List ℕ → ℕ → Type 0
FallsByAtMost high low most = (j : ℕ) → j < columns → slice_index_or high j 0 ≤ most + slice_index_or low j 0

-- at most each number by which no height falls more
abbrev pub IsLeastFall : List ℕ → List ℕ → ℕ → Type 0
IsLeastFall high low fall = (most : ℕ) → FallsByAtMost high low most → fall ≤ most

-- for each node the least length of a walk to one node, whatever may be passed
abbrev pub AreLengths : Roads → ℕ → List (Option ℕ) → Type 0
AreLengths roads node lengths = ArePotentials roads.segments every (length roads.nodes) node lengths

-- a length as a height: the greatest number that fits, where it is greater or there is none
abbrev pub height_of : Option ℕ → ℕ
height_of None = 4294967295
height_of (Some d) = min d 4294967295

-- one column is that of these lengths, and the others are as before
pub record IsColumn (old new : List (List ℕ)) (column : ℕ) (lengths : List (Option ℕ)) : Type 0 where
  pub here : (v : ℕ) (p : Option ℕ) → slice_get lengths v ≡ Some p → height_at new v column ≡ height_of p
  pub others : (v j : ℕ) → j < columns → (j ≡ column → ⊥) → height_at new v j ≡ height_at old v j
