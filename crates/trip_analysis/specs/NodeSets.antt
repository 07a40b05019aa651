-- Marks of a set of nodes.
use Rattle.std.specs.Prelude.{◌≡◌, ◌<◌, ◌≤◌, ℕ, Bool, false, true, List, Some, slice_get, slice_index_or}
use Rattle.road_graph.specs.declared.segment.Segment.{Segment}
use Rattle.road_graph.specs.Roads.{Roads}
use Rattle.trip_analysis.specs.Findings.{is_number_among, leaves}

-- for each number that a node of a network can have, whether it is one of these
abbrev pub AreMarks : List ℕ → List Bool → Type 0
AreMarks nodes marks = (n : ℕ) → n < 4096 → slice_index_or marks n false ≡ is_number_among n nodes

-- no segment of a lower number leaves the nodes and ends at this node
abbrev pub IsLeastInto : Roads → List ℕ → ℕ → ℕ → Type 0
IsLeastInto roads nodes node least =
    (s : ℕ) (here : Segment) → slice_get roads.segments s ≡ Some here → here.to ≡ node → leaves roads nodes s ≡ true → least ≤ s
