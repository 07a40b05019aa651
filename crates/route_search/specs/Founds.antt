-- What a search answers. The three cases exclude one another.
use Rattle.std.specs.Prelude.{◌≡◌, ℕ, ◌<◌, Bool, List, length, Option, Some, None, slice_get}
use Rattle.road_graph.specs.Roads.{Roads}
use Rattle.route_search.specs.declared.found.Found.{Found}
use Rattle.route_search.specs.declared.found.Found.TheVariants.{Cut, NoRoad, Route}
use Rattle.route_search.specs.declared.shortest.Shortest.{Shortest}
use Rattle.route_search.specs.declared.shortest.Shortest.TheVariants as shortest
use Rattle.route_search.specs.Walks.{AreNear, ArePotentials, AreReached, CanReach, IsRoute, every, feet_of, flagged}

-- for each node the least length of a walk to a goal, over the flagged segments of a network
abbrev pub ArePotentialsOver : Roads → List Bool → ℕ → List (Option ℕ) → Type 0
ArePotentialsOver roads passable goal potentials = ArePotentials roads.segments (flagged passable) (length roads.nodes) goal potentials

-- the potentials that are asked for one start alone, over the flagged segments of a network
abbrev pub AreNearOver : Roads → List Bool → ℕ → ℕ → List (Option ℕ) → Type 0
AreNearOver roads passable start goal potentials = AreNear roads.segments (flagged passable) (length roads.nodes) start goal potentials

-- the first of the shortest passable walks from a to b, and its length
pub record IsShortestRoute (roads : Roads) (passable : List Bool) (a b : ℕ) (segments : List ℕ) (feet : ℕ) : Type 0 where
  pub route : IsRoute roads.segments (flagged passable) a b segments
  pub feet_is : feet_of roads.segments segments ≡ feet

-- the first of the shortest passable walks from a to b, its length, and the potentials that certify it
pub record IsRouteFound (roads : Roads) (passable : List Bool) (a b : ℕ) (segments : List ℕ) (feet : ℕ) (potential : List (Option ℕ)) : Type 0 where
  pub route : IsRoute roads.segments (flagged passable) a b segments
  pub feet_is : feet_of roads.segments segments ≡ feet
  pub potentials : ArePotentialsOver roads passable b potential
  pub at_start : slice_get potential a ≡ Some (Some feet)

-- there is a walk from a to b, and none is passable; the nodes that passable walks reach from a
pub record IsCutFound (roads : Roads) (passable : List Bool) (a b : ℕ) (reached : List ℕ) : Type 0 where
  pub walk : CanReach roads.segments every a b
  pub none : CanReach roads.segments (flagged passable) a b → ⊥
  pub nodes : AreReached roads.segments (flagged passable) a reached

-- there is no walk from a to b; the nodes that any walks reach from a
pub record IsNoRoadFound (roads : Roads) (a b : ℕ) (reached : List ℕ) : Type 0 where
  pub none : CanReach roads.segments every a b → ⊥
  pub nodes : AreReached roads.segments every a reached

-- what is found from a to b
abbrev pub IsFoundBetween : Roads → List Bool → ℕ → ℕ → Found → Type 0
IsFoundBetween roads passable a b (Route segments feet potential) = IsRouteFound roads passable a b segments feet potential
IsFoundBetween roads passable a b (Cut reached) = IsCutFound roads passable a b reached
IsFoundBetween roads passable a b (NoRoad reached) = IsNoRoadFound roads a b reached

-- the same without the potentials
abbrev pub IsShortest : Roads → List Bool → ℕ → ℕ → Shortest → Type 0
IsShortest roads passable a b (shortest.Route segments feet) = IsShortestRoute roads passable a b segments feet
IsShortest roads passable a b (shortest.Cut reached) = IsCutFound roads passable a b reached
IsShortest roads passable a b (shortest.NoRoad reached) = IsNoRoadFound roads a b reached

-- the route from a to b, or none, where no passable walk leads there
abbrev pub IsRouteOrNone : Roads → List Bool → ℕ → ℕ → Option Shortest → Type 0
IsRouteOrNone roads passable a b None = CanReach roads.segments (flagged passable) a b → ⊥
IsRouteOrNone roads passable a b (Some found) = IsShortest roads passable a b found

-- the segments of a route, and the nodes that are reached, are there
abbrev pub IsFoundInRange : Roads → Found → Type 0
IsFoundInRange roads (Route segments feet potential) = (k i : ℕ) → slice_get segments k ≡ Some i → i < length roads.segments
IsFoundInRange roads (Cut reached) = (k v : ℕ) → slice_get reached k ≡ Some v → v < length roads.nodes
IsFoundInRange roads (NoRoad reached) = (k v : ℕ) → slice_get reached k ≡ Some v → v < length roads.nodes

-- the same of what is found without the potentials
abbrev pub IsShortestInRange : Roads → Shortest → Type 0
IsShortestInRange roads (shortest.Route segments feet) = (k i : ℕ) → slice_get segments k ≡ Some i → i < length roads.segments
IsShortestInRange roads (shortest.Cut reached) = (k v : ℕ) → slice_get reached k ≡ Some v → v < length roads.nodes
IsShortestInRange roads (shortest.NoRoad reached) = (k v : ℕ) → slice_get reached k ≡ Some v → v < length roads.nodes
