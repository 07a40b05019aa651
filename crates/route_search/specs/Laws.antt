-- Laws of potentials, findings and reached nodes.
use Rattle.std.specs.Prelude.{◌≡◌, ℕ, ◌+◌, ◌≤◌, ◌<◌, Bool, true, false, List, length, slice_get, Option, Some}
use Rattle.road_graph.specs.declared.segment.Segment.{Segment}
use Rattle.road_graph.specs.Roads.{IsRoads, Roads}
use Rattle.route_search.specs.declared.found.Found.{Found}
use Rattle.route_search.specs.Walks.{ArePotentials, AreReached, IsAmong, IsRoute, IsWalk}
use Rattle.route_search.specs.declared.shortest.Shortest.{Shortest}
use Rattle.route_search.specs.Founds.{IsFoundBetween, IsFoundInRange, IsShortest, IsShortestInRange}

-- potentials certify that no walk is shorter: where a segment may be passed and its end has a potential, its start has one,
-- at most the segment's feet more
abbrev pub PotentialsCertify : Type 0
PotentialsCertify =
    (roads : Roads) (may : ℕ → Bool) (goal : ℕ) (ps : List (Option ℕ)) → IsRoads roads → ArePotentials roads.segments may (length roads.nodes) goal ps
    → (i : ℕ) (s : Segment) (d : ℕ) → slice_get roads.segments i ≡ Some s → may i ≡ true → slice_get ps s.to ≡ Some (Some d)
    → (e : ℕ) × (slice_get ps s.from ≡ Some (Some e)) × (e ≤ d + s.feet)

-- the potential of the goal is 0
abbrev pub GoalIsZero : Type 0
GoalIsZero =
    (roads : Roads) (may : ℕ → Bool) (goal : ℕ) (ps : List (Option ℕ)) → IsRoads roads → ArePotentials roads.segments may (length roads.nodes) goal ps
    → goal < length roads.nodes → slice_get ps goal ≡ Some (Some 0)

-- one walk is the first of the shortest
abbrev pub OneRoute : Type 0
OneRoute =
    (segments : List Segment) (may : ℕ → Bool) (a b : ℕ) (xs ys : List ℕ) → IsRoute segments may a b xs → IsRoute segments may a b ys → xs ≡ ys

-- one list is that of the nodes that are reached
abbrev pub OneReached : Type 0
OneReached =
    (segments : List Segment) (may : ℕ → Bool) (a : ℕ) (xs ys : List ℕ) → AreReached segments may a xs → AreReached segments may a ys → xs ≡ ys

-- what is found follows from the network, the flags and the two nodes
abbrev pub OneFinding : Type 0
OneFinding =
    (roads : Roads) (passable : List Bool) (a b : ℕ) (f g : Found) → IsFoundBetween roads passable a b f → IsFoundBetween roads passable a b g → f ≡ g

-- the same of what is found without the potentials
abbrev pub OneShortest : Type 0
OneShortest =
    (roads : Roads) (passable : List Bool) (a b : ℕ) (f g : Shortest) → IsShortest roads passable a b f → IsShortest roads passable a b g → f ≡ g

-- what is found is in range
abbrev pub FindingsAreInRange : Type 0
FindingsAreInRange =
    (roads : Roads) (passable : List Bool) (a b : ℕ) (found : Found) → IsRoads roads → a < length roads.nodes → IsFoundBetween roads passable a b found
    → IsFoundInRange roads found

-- what is found without the potentials is in range
abbrev pub ShortestAreInRange : Type 0
ShortestAreInRange =
    (roads : Roads) (passable : List Bool) (a b : ℕ) (found : Shortest) → IsRoads roads → a < length roads.nodes → IsShortest roads passable a b found
    → IsShortestInRange roads found

-- a segment leaves a set of nodes where it begins in the set and does not end in it
abbrev pub Leaves : (ℕ → Bool) → Segment → Type 0
Leaves inside s = (inside s.from ≡ true) × (inside s.to ≡ false)

-- where no segment that may be passed leaves a set of nodes, a walk that begins in the set ends in it
abbrev pub ClosedSetsKeepWalksIn : Type 0
ClosedSetsKeepWalksIn =
    (segments : List Segment) (may inside : ℕ → Bool)
    → ((i : ℕ) (s : Segment) → slice_get segments i ≡ Some s → may i ≡ true → Leaves inside s → ⊥)
    → (a b : ℕ) (path : List ℕ) → inside a ≡ true → IsWalk segments may a b path → inside b ≡ true

-- the node at which the walks begin is among the nodes that are reached
abbrev pub StartIsReached : Type 0
StartIsReached = (segments : List Segment) (may : ℕ → Bool) (a : ℕ) (numbers : List ℕ) → AreReached segments may a numbers → IsAmong numbers a

-- where a segment may be passed and begins at a node that is reached, it ends at one
abbrev pub ReachedAreClosed : Type 0
ReachedAreClosed =
    (segments : List Segment) (may : ℕ → Bool) (a : ℕ) (numbers : List ℕ) → AreReached segments may a numbers
    → (i : ℕ) (s : Segment) → slice_get segments i ≡ Some s → may i ≡ true → IsAmong numbers s.from → IsAmong numbers s.to
