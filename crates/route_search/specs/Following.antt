-- The segments that lead on a walk of least length, as potentials show them.
use Rattle.std.specs.Prelude.{◌≡◌, ℕ, ◌-◌, ◌≤◌, Bool, true, List, slice_get, Option, Some}
use Rattle.road_graph.specs.declared.segment.Segment.{Segment}
use Rattle.road_graph.specs.Roads.{Roads}
use Rattle.route_search.specs.Walks.{flagged}

-- segment i leads from a node on a walk of least length, of which `left` feet are left: its feet are the difference of the
-- potentials of its ends
abbrev pub IsTightSegment : List Segment → (ℕ → Bool) → List (Option ℕ) → ℕ → ℕ → ℕ → Type 0
IsTightSegment segments may potentials node left i =
    (s : Segment) × (slice_get segments i ≡ Some s) × (may i ≡ true) × (s.from ≡ node) × (s.feet ≤ left) × (slice_get potentials s.to ≡ Some (Some (left - s.feet)))

-- it is the one of least number
pub record IsFirstTight (segments : List Segment) (may : ℕ → Bool) (potentials : List (Option ℕ)) (node left i : ℕ) : Type 0 where
  pub tight : IsTightSegment segments may potentials node left i
  pub first : (j : ℕ) → IsTightSegment segments may potentials node left j → i ≤ j

-- the same over the flagged segments of a network
abbrev pub IsTightOver : Roads → List Bool → List (Option ℕ) → ℕ → ℕ → ℕ → Type 0
IsTightOver roads passable potentials node left i = IsTightSegment roads.segments (flagged passable) potentials node left i

abbrev pub IsFirstTightOver : Roads → List Bool → List (Option ℕ) → ℕ → ℕ → ℕ → Type 0
IsFirstTightOver roads passable potentials node left i = IsFirstTight roads.segments (flagged passable) potentials node left i

-- no flagged segment leads on from the node
abbrev pub IsNoneTightOver : Roads → List Bool → List (Option ℕ) → ℕ → ℕ → Type 0
IsNoneTightOver roads passable potentials node left = (i : ℕ) → IsTightOver roads passable potentials node left i → ⊥
