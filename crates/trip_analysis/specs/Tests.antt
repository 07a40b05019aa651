-- How many segments are tested at the most while something is found.
use Rattle.std.specs.Prelude.{ℕ, ◌*◌, List, length, Option, Some, None}
use Rattle.std.specs.List.{concat}
use Rattle.trip_analysis.specs.Bases.{BaseLists}

-- what is asked for is found by testing each segment of each asked route once, or else each segment of the roads once
abbrev pub tests_for : BaseLists → Option (List (List ℕ)) → ℕ
tests_for base (Some routes) = length (concat routes)
tests_for base None = length base.roads.segments

-- what is known of the trucks is carried over to a later state by testing each segment of the roads once for each truck
abbrev pub tests_to_go_on : BaseLists → ℕ
tests_to_go_on base = length base.fleet * length base.roads.segments
