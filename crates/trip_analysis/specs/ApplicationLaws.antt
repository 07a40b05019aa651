-- Laws of applications: what breaks of routes mean on the road.
use Rattle.std.specs.Prelude.{◌≡◌, ◌≢◌, ◌↔◌, ℕ, ◌<◌, ◌≤◌, List, [], length, take, get_or, slice_get, Some, None, All}
use Rattle.std.specs.List.{concat}
use Rattle.road_graph.specs.declared.segment.Segment.{Segment}
use Rattle.road_graph.specs.Roads.{segment_at}
use Rattle.route_search.specs.Walks.{IsWalk, every}
use Rattle.trip_analysis.specs.declared.application_refusal.ApplicationRefusal.TheVariants.{BrokenRoute}
use Rattle.trip_analysis.specs.Applications.{break_from, first_break}

-- routes along segments that are there are walks from one node to another exactly where none of them breaks off
abbrev pub RoutesAreUnbroken : Type 0
RoutesAreUnbroken =
    (segments : List Segment) (from to : ℕ) (routes : List (List ℕ)) → All (λ s. s < length segments) (concat routes)
    → (first_break segments 0 from to routes ≡ None) ↔ All (IsWalk segments every from to) routes

-- a list of segments that are there is a walk from one node to another exactly where it does not break off
abbrev pub WalksAreUnbroken : Type 0
WalksAreUnbroken =
    (segments : List Segment) (from to : ℕ) (route : List ℕ) → All (λ s. s < length segments) route
    → (break_from segments 0 from to route ≡ None) ↔ IsWalk segments every from to route

-- the segments in front of this place are a walk to some node; there the next one does not begin or, where none is left, the
-- trip does not end
pub record IsBreak (segments : List Segment) (from to : ℕ) (route : List ℕ) (at : ℕ) : Type 0 where
  pub within : at ≤ length route
  pub node : ℕ
  pub walk : IsWalk segments every from node (take at route)
  pub next : (i : ℕ) → slice_get route at ≡ Some i → (segment_at segments i).from ≢ node
  pub end : at ≡ length route → node ≢ to

-- a list of segments that are there breaks off exactly where the walk along it does
abbrev pub BreaksAreFirst : Type 0
BreaksAreFirst =
    (segments : List Segment) (from to : ℕ) (route : List ℕ) (at : ℕ) → All (λ s. s < length segments) route
    → (break_from segments 0 from to route ≡ Some at) ↔ IsBreak segments from to route at

-- there is a route of this number, it breaks off at this place, and each route before it is a walk
pub record IsFirstBreak (segments : List Segment) (from to : ℕ) (routes : List (List ℕ)) (route at : ℕ) : Type 0 where
  pub there : route < length routes
  pub before : All (IsWalk segments every from to) (take route routes)
  pub here : IsBreak segments from to (get_or routes route []) at

-- routes along segments that are there are refused for the first of them that is no walk, with the place where it breaks off
abbrev pub FirstBreaksAreFirst : Type 0
FirstBreaksAreFirst =
    (segments : List Segment) (from to : ℕ) (routes : List (List ℕ)) (route at : ℕ) → All (λ s. s < length segments) (concat routes)
    → (first_break segments 0 from to routes ≡ Some (BrokenRoute route at)) ↔ IsFirstBreak segments from to routes route at
