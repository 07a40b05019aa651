-- What is so of each segment of some routes, one after another.
use Rattle.std.proofs.Common.{◌≡◌, ◌<◌, ◌++◌, ◌∷◌, [], ℕ, List, Bool, length, get_or}
use Rattle.std.specs.List.{All, AllByRecursion as ByRecursion, concat}
use Rattle.std.proofs.lemmas.List.{append-nil}
use Rattle.std.proofs.lemmas.List.Elements.{All-from_recursion, All-get_or, recursion_from_All}
use Rattle.road_graph.specs.declared.segment.Segment.{Segment}
use Rattle.road_graph.proofs.Places.{get_within}
use Rattle.route_search.specs.Walks.{IsWalk}

-- one route after another is the route, where there is one
pub one_joined : (route : List ℕ) → concat (route ∷ []) ≡ route
one_joined route = append-nil route

module _ (P : ℕ → Type 0) where
  both_each : (xs ys : List ℕ) → ByRecursion P xs → ByRecursion P ys → ByRecursion P (xs ++ ys)
  both_each [] ys h k = k
  both_each (x ∷ xs) ys h k = (h.0, both_each xs ys h.1 k)

  pub parts_each : (xs ys : List ℕ) → ByRecursion P (xs ++ ys) → ByRecursion P xs × ByRecursion P ys
  parts_each [] ys h = (tt, h)
  parts_each (x ∷ xs) ys h = let (here, there) = parts_each xs ys h.1 in ((h.0, here), there)

  routes_each : (routes : List (List ℕ)) → ByRecursion P (concat routes) → ByRecursion (All P) routes
  routes_each [] h = tt
  routes_each (route ∷ rest) h = let (here, there) = parts_each route (concat rest) h in (All-from_recursion P route here, routes_each rest there)

  joined_each : (routes : List (List ℕ)) → ByRecursion (All P) routes → ByRecursion P (concat routes)
  joined_each [] h = tt
  joined_each (route ∷ rest) h = both_each route (concat rest) (recursion_from_All P route h.0) (joined_each rest h.1)

  -- what is so of each segment of all routes is so of each segment of each route
  pub all_routes : (routes : List (List ℕ)) → All P (concat routes) → All (All P) routes
  all_routes routes h = All-from_recursion (All P) routes (routes_each routes (recursion_from_All P (concat routes) h))

  -- and of each segment of the route at a place
  pub all_on : (routes : List (List ℕ)) (i : ℕ) → i < length routes → All P (concat routes) → All P (get_or routes i [])
  all_on routes i within h = All-get_or (All P) routes i [] within (all_routes routes h)

  -- and the other way round
  pub all_joined : (routes : List (List ℕ)) → All (All P) routes → All P (concat routes)
  all_joined routes h = All-from_recursion P (concat routes) (joined_each routes (recursion_from_All (All P) routes h))

-- the segments of a walk are there
pub walk_there : (segments : List Segment) (may : ℕ → Bool) (a b : ℕ) (path : List ℕ) → IsWalk segments may a b path → ByRecursion (λ s. s < length segments) path
walk_there segments may a b [] walk = tt
walk_there segments may a b (i ∷ path) walk = let (s, at, may1, from, rest) = walk in (get_within segments i s at, walk_there segments may s.to b path rest)

walks_each : (segments : List Segment) (may : ℕ → Bool) (a b : ℕ) (routes : List (List ℕ)) → ByRecursion (IsWalk segments may a b) routes → ByRecursion (λ s. s < length segments) (concat routes)
walks_each segments may a b [] walks = tt
walks_each segments may a b (route ∷ rest) walks =
    both_each (λ s. s < length segments) route (concat rest) (walk_there segments may a b route walks.0) (walks_each segments may a b rest walks.1)

-- the segments of routes that are walks are there
pub walks_there : (segments : List Segment) (may : ℕ → Bool) (a b : ℕ) (routes : List (List ℕ)) → All (IsWalk segments may a b) routes → All (λ s. s < length segments) (concat routes)
walks_there segments may a b routes walks =
    All-from_recursion (λ s. s < length segments) (concat routes) (walks_each segments may a b routes (recursion_from_All (IsWalk segments may a b) routes walks))
