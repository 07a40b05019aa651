-- Where walks lead, and what they cannot leave.
use Rattle.std.proofs.Common.{◌≡◌, ◌⊎◌, ◌<◌, ◌∷◌, [], ℕ, suc, zero, List, Bool, true, false, Some, length, refl, ap, sym, subst, inl, inr, ◌∙◌}
use Rattle.std.specs.Prelude.{slice_get}
use Rattle.road_graph.specs.declared.segment.Segment.{Segment}
use Rattle.road_graph.specs.Roads.{IsRoads, Roads}
use Rattle.road_graph.proofs.Places.{get_within}
use Rattle.route_search.specs.declared.found.Found.{Found}
use Rattle.route_search.specs.declared.found.Found.TheVariants.{Cut, NoRoad, Route}
use Rattle.route_search.specs.Walks.{AreReached, IsAmong, IsWalk, every, flagged}
use Rattle.route_search.specs.declared.shortest.Shortest.{Shortest}
use Rattle.route_search.specs.declared.shortest.Shortest.TheVariants as shortest
use Rattle.route_search.specs.Founds.{IsFoundBetween, IsFoundInRange, IsShortest, IsShortestInRange}
use Rattle.route_search.specs.Laws.{Leaves}
use Rattle.route_search.proofs.Reaches.{reach_more}

bit : (b : Bool) → (b ≡ true) ⊎ (b ≡ false)
bit true = inl refl
bit false = inr refl

-- where no segment that may be passed leaves a set, a walk that begins in it ends in it
pub stays_in : (segments : List Segment) (may inside : ℕ → Bool) → ((i : ℕ) (s : Segment) → slice_get segments i ≡ Some s → may i ≡ true → Leaves inside s → ⊥)
    → (a b : ℕ) (path : List ℕ) → inside a ≡ true → IsWalk segments may a b path → inside b ≡ true
stays_in segments may inside closed a b [] start walk = sym (ap inside walk) ∙ start
stays_in segments may inside closed a b (i ∷ path) start walk =
    let (s, at, may1, from, rest) = walk in
    let begin : inside s.from ≡ true = ap inside from ∙ start in
    elim (bit (inside s.to)) [
      | inl t ↦ stays_in segments may inside closed s.to b path t rest
      | inr f ↦ absurd (closed i s at may1 (begin, f))
    ]

pub start_reached : (segments : List Segment) (may : ℕ → Bool) (a : ℕ) (numbers : List ℕ) → AreReached segments may a numbers → IsAmong numbers a
start_reached segments may a numbers h = h.complete a ([], refl)

pub reached_closed : (segments : List Segment) (may : ℕ → Bool) (a : ℕ) (numbers : List ℕ) → AreReached segments may a numbers
    → (i : ℕ) (s : Segment) → slice_get segments i ≡ Some s → may i ≡ true → IsAmong numbers s.from → IsAmong numbers s.to
reached_closed segments may a numbers h i s at may1 (k, place) = h.complete s.to (reach_more segments may a s.from i s (h.sound k s.from place) at may1 refl)

-- the segments of a walk are there
walk_within : (segments : List Segment) (may : ℕ → Bool) (a b : ℕ) (path : List ℕ) (k i : ℕ) → IsWalk segments may a b path → slice_get path k ≡ Some i → i < length segments
walk_within segments may a b [] k i walk at = cc
walk_within segments may a b (j ∷ path) zero i walk at =
    let (s, here, may1, from, rest) = walk in
    let is : j ≡ i = cc in
    subst (λ (n : ℕ). n < length segments) is (get_within segments j s here)
walk_within segments may a b (j ∷ path) (suc k) i walk at = let (s, here, may1, from, rest) = walk in walk_within segments may s.to b path k i rest at

-- a walk from a node that is there ends at one
end_within : (roads : Roads) (may : ℕ → Bool) (a b : ℕ) (path : List ℕ) → IsRoads roads → a < length roads.nodes → IsWalk roads.segments may a b path → b < length roads.nodes
end_within roads may a b [] ok there walk = subst (λ (n : ℕ). n < length roads.nodes) walk there
end_within roads may a b (i ∷ path) ok there walk = let (s, at, may1, from, rest) = walk in end_within roads may s.to b path ok (ok.each i s at).to rest

pub in_range : (roads : Roads) (passable : List Bool) (a b : ℕ) (found : Found) → IsRoads roads → a < length roads.nodes → IsFoundBetween roads passable a b found → IsFoundInRange roads found
in_range roads passable a b (Route segments feet potential) ok there h = λ k i at. walk_within roads.segments (flagged passable) a b segments k i h.route.walk at
in_range roads passable a b (Cut reached) ok there h = λ k v at. let (path, walk) = h.nodes.sound k v at in end_within roads (flagged passable) a v path ok there walk
in_range roads passable a b (NoRoad reached) ok there h = λ k v at. let (path, walk) = h.nodes.sound k v at in end_within roads every a v path ok there walk

pub shortest_in_range : (roads : Roads) (passable : List Bool) (a b : ℕ) (found : Shortest) → IsRoads roads → a < length roads.nodes → IsShortest roads passable a b found → IsShortestInRange roads found
shortest_in_range roads passable a b (shortest.Route segments feet) ok there h = λ k i at. walk_within roads.segments (flagged passable) a b segments k i h.route.walk at
shortest_in_range roads passable a b (shortest.Cut reached) ok there h = λ k v at. let (path, walk) = h.nodes.sound k v at in end_within roads (flagged passable) a v path ok there walk
shortest_in_range roads passable a b (shortest.NoRoad reached) ok there h = λ k v at. let (path, walk) = h.nodes.sound k v at in end_within roads every a v path ok there walk
