-- Laws of findings: what they mean on the road.
use Rattle.std.specs.Prelude.{◌≡◌, ℕ, true, false, List, [], ◌∷◌, ◌++◌, Some, None, All}
use Rattle.std.specs.List.{concat}
use Rattle.restriction_log.specs.States.{InForce}
use Rattle.road_graph.specs.Roads.{IsRoads}
use Rattle.route_search.specs.Walks.{AreReached, CanReach, IsRoute, every}
use Rattle.trip_analysis.specs.declared.application.Application.{Application}
use Rattle.trip_analysis.specs.declared.finding.What.{What}
use Rattle.trip_analysis.specs.declared.finding.What.TheVariants as what
use Rattle.trip_analysis.specs.Bases.{BaseLists}
use Rattle.trip_analysis.specs.Applications.{Sound}
use Rattle.trip_analysis.specs.Passing.{is_passable}
use Rattle.trip_analysis.specs.Findings.{HoldsIn, InRange, IsFinding}

-- one thing is found for an application in a state
abbrev pub FindingIsOne : Type 0
FindingIsOne = (base : BaseLists) (state : InForce) (a : Application) (v w : What) → IsFinding base state a v → IsFinding base state a w → v ≡ w

-- the segments that are found are there, and the nodes of a cut rise
abbrev pub TripFindingsAreInRange : Type 0
TripFindingsAreInRange =
    (base : BaseLists) (state : InForce) (a : Application) (w : What) → IsRoads base.roads → Sound base a → IsFinding base state a w → InRange base w

-- what is found holds in the state in which it was found
abbrev pub FindingsHold : Type 0
FindingsHold =
    (base : BaseLists) (state : InForce) (a : Application) (w : What) → IsRoads base.roads → Sound base a → IsFinding base state a w
    → HoldsIn base state a.truck w

-- without an asked route, routes that are found are one: a walk over segments that each meet the truck; no such walk is
-- shorter, and of those as short it is the first in dictionary order
abbrev pub RoutesAreFirstOfShortest : Type 0
RoutesAreFirstOfShortest =
    (base : BaseLists) (state : InForce) (a : Application) (routes : List (List ℕ)) → a.asked ≡ None → IsFinding base state a (what.Route routes)
    → (route : List ℕ) × (routes ≡ route ∷ []) × IsRoute base.roads.segments (is_passable base state a.truck) a.from a.to route

-- no walk over segments that each meet the truck leads from one node to another; these are the nodes that such walks reach
-- or, where no walk at all leads there, those that any walk reaches
pub record IsCut (base : BaseLists) (state : InForce) (truck from to : ℕ) (nodes : List ℕ) : Type 0 where
  pub none : CanReach base.roads.segments (is_passable base state truck) from to → ⊥
  pub by_passable : CanReach base.roads.segments every from to → AreReached base.roads.segments (is_passable base state truck) from nodes
  pub by_any : (CanReach base.roads.segments every from to → ⊥) → AreReached base.roads.segments every from nodes

-- without an asked route, nodes that are found are a cut
abbrev pub CutsLetNoneThrough : Type 0
CutsLetNoneThrough =
    (base : BaseLists) (state : InForce) (a : Application) (nodes : List ℕ) → a.asked ≡ None → IsFinding base state a (what.Cut nodes)
    → IsCut base state a.truck a.from a.to nodes

-- with asked routes, routes that are found are the asked ones, and each segment of each of them meets the truck
abbrev pub AskedRoutesMeet : Type 0
AskedRoutesMeet =
    (base : BaseLists) (state : InForce) (a : Application) (asked routes : List (List ℕ)) → a.asked ≡ Some asked → IsFinding base state a (what.Route routes)
    → (routes ≡ asked) × All (λ s. is_passable base state a.truck s ≡ true) (concat asked)

-- the route passes this segment, which fails the truck, and each segment before it meets the truck
pub record IsFirstFailing (base : BaseLists) (state : InForce) (truck : ℕ) (route : List ℕ) (s : ℕ) : Type 0 where
  pub front : List ℕ
  pub back : List ℕ
  pub parts : route ≡ front ++ s ∷ back
  pub before : All (λ k. is_passable base state truck k ≡ true) front
  pub fails : is_passable base state truck s ≡ false

-- with asked routes, a segment that is found is the first on them that fails, in the order of the routes and on each in its
-- order
abbrev pub AskedRoutesFailFirst : Type 0
AskedRoutesFailFirst =
    (base : BaseLists) (state : InForce) (a : Application) (asked : List (List ℕ)) (s : ℕ) → a.asked ≡ Some asked → IsFinding base state a (what.Fails s)
    → IsFirstFailing base state a.truck (concat asked) s
