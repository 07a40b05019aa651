-- Where a truck can go: walks along which every segment meets it, and the segments at which they end.
use Rattle.std.specs.Prelude.{◌≡◌, ℕ, ◌<◌, ◌≤◌, [], ◌∷◌, length, All}
use Rattle.road_graph.specs.Roads.{segment_at}
use Rattle.restriction_log.specs.States.{InForce}
use Rattle.route_search.specs.Walks.{IsNotAfter, IsWalk, every, feet_of}
use Rattle.trip_analysis.specs.Bases.{BaseLists}
use Rattle.office_core.specs.Clearances.{MeetsTruck}
use Rattle.office_core.specs.Happened.{Route, Routes}

-- a route is a walk over the roads from one node to another, whatever is posted
abbrev pub IsRoadWalk : BaseLists → ℕ → ℕ → Route → Type 0
IsRoadWalk base from to route = IsWalk base.roads.segments every from to route

-- it is passable: each of its segments meets the truck
pub record IsPassableWalk (base : BaseLists) (state : InForce) (truck from to : ℕ) (route : Route) : Type 0
  where
    pub walk : IsRoadWalk base from to route
    pub meets : All (MeetsTruck base state truck) route

-- of the passable walks from one node to another none is shorter, and of those as short it is the first in
-- dictionary order
pub record IsShortestPassable (base : BaseLists) (state : InForce) (truck from to : ℕ) (route : Route) : Type 0 where
  pub walk : IsPassableWalk base state truck from to route
  pub least : (other : Route) → IsPassableWalk base state truck from to other
      → feet_of base.roads.segments route ≤ feet_of base.roads.segments other
  pub first : (other : Route) → IsPassableWalk base state truck from to other
      → feet_of base.roads.segments other ≡ feet_of base.roads.segments route → IsNotAfter route other

-- each of these routes is a walk from one node to another, and is passable
abbrev pub ArePassableWalks : BaseLists → InForce → ℕ → ℕ → ℕ → Routes → Type 0
ArePassableWalks base state truck from to routes = All (IsPassableWalk base state truck from to) routes

-- the routes are one, the first in dictionary order of the shortest passable walks
pub record IsShortestAlone (base : BaseLists) (state : InForce) (truck from to : ℕ) (routes : Routes) : Type 0 where
  pub route : Route
  pub alone : routes ≡ route ∷ []
  pub shortest : IsShortestPassable base state truck from to route

-- the truck reaches a node: some passable walk leads there
abbrev pub Reaches : BaseLists → InForce → ℕ → ℕ → ℕ → Type 0
Reaches base state truck from node = (route : Route) × IsPassableWalk base state truck from node route

-- a segment leads out of all that the truck reaches: it reaches the node at which the segment begins, and
-- does not reach the one at which it ends
pub record LeadsOut (base : BaseLists) (state : InForce) (truck from s : ℕ) : Type 0 where
  pub there : s < length base.roads.segments
  pub begins : Reaches base state truck from (segment_at base.roads.segments s).from
  pub ends : Reaches base state truck from (segment_at base.roads.segments s).to → ⊥
