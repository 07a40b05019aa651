-- Walks by any segment, and what follows where there is no passable walk.
use Rattle.std.proofs.Common.{◌≡◌, ◌<◌, ◌∷◌, [], ℕ, suc, zero, List, Bool, true, false, Option, Some, None, length, get_or, replicate, refl, sym, ap, arith, ◌∙◌}
use Rattle.std.specs.Prelude.{slice_get}
use Rattle.road_graph.specs.declared.segment.Segment.{Segment}
use Rattle.road_graph.specs.Roads.{Roads}
use Rattle.road_graph.proofs.Places.{get_some, get_within}
use Rattle.route_search.specs.Walks.{AreNear, ArePotentials, AreReached, CanReach, IsPotential, IsRoute, IsWalk, every, flagged}
use Rattle.route_search.specs.Heights.{AreLengths}
use Rattle.route_search.specs.declared.walks.Way.TheVariants.{Forth}
use Rattle.route_search.specs.Reaching.{AreMarked, IsMarked}
use Rattle.route_search.specs.Founds.{IsCutFound, IsNoRoadFound, IsRouteFound, IsShortestRoute}

-- a walk along segments that may be passed is a walk
pub to_every : (segments : List Segment) (may : ℕ → Bool) (a b : ℕ) (path : List ℕ) → IsWalk segments may a b path → IsWalk segments every a b path
to_every segments may a b [] walk = walk
to_every segments may a b (i ∷ path) walk = let (s, at, may1, from, rest) = walk in (s, at, refl, from, to_every segments may s.to b path rest)

all_true : (n i : ℕ) → i < n → get_or (replicate n true) i false ≡ true
all_true zero i low = absurd (omega (arith, low))
all_true (suc n) zero low = refl
all_true (suc n) (suc i) low = all_true n i (omega (arith, low))

module _ (segments : List Segment) (flags : List Bool) (e : flags ≡ replicate (length segments) true) where
  to_flagged : (a b : ℕ) (path : List ℕ) → IsWalk segments every a b path → IsWalk segments (flagged flags) a b path
  to_flagged a b [] walk = walk
  to_flagged a b (i ∷ path) walk =
      let (s, at, may1, from, rest) = walk in
      (s, at, rw e (all_true (length segments) i (get_within segments i s at)), from, to_flagged s.to b path rest)

  pub reach_every : (a b : ℕ) → CanReach segments (flagged flags) a b → CanReach segments every a b
  reach_every a b (path, walk) = (path, to_every segments (flagged flags) a b path walk)

  pub reach_flagged : (a b : ℕ) → CanReach segments every a b → CanReach segments (flagged flags) a b
  reach_flagged a b (path, walk) = (path, to_flagged a b path walk)

  pub reached_every : (a : ℕ) (numbers : List ℕ) → AreReached segments (flagged flags) a numbers → AreReached segments every a numbers
  reached_every a numbers h = record {
    rising = h.rising;
    sound = λ k v at. reach_every a v (h.sound k v at);
    complete = λ v reach. h.complete v (reach_flagged a v reach);
  }

pub potential_every : (segments : List Segment) (flags : List Bool) → flags ≡ replicate (length segments) true → (v goal : ℕ) (p : Option ℕ) → IsPotential segments (flagged flags) v goal p → IsPotential segments every v goal p
potential_every segments flags e v goal None none = λ path walk. none path (to_flagged segments flags e v goal path walk)
potential_every segments flags e v goal (Some d) least = record {
  reached = let (path, walk, long) = least.reached in (path, to_every segments (flagged flags) v goal path walk, long);
  least = λ path walk. least.least path (to_flagged segments flags e v goal path walk);
}

-- over set flags potentials are those of any walks
pub lengths_every : (roads : Roads) (flags : List Bool) (goal : ℕ) (ps : List (Option ℕ)) → flags ≡ replicate (length roads.segments) true
    → ArePotentials roads.segments (flagged flags) (length roads.nodes) goal ps → AreLengths roads goal ps
lengths_every roads flags goal ps e h = record { many = h.many; each = λ v p at. potential_every roads.segments flags e v goal p (h.each v p at) }

pub cut_found : (roads : Roads) (passable flags : List Bool) (a b : ℕ) (all : List Bool) (numbers : List ℕ) → flags ≡ replicate (length roads.segments) true → (CanReach roads.segments (flagged passable) a b → ⊥)
    → AreMarked Forth roads (flagged flags) a all → IsMarked all b → AreReached roads.segments (flagged passable) a numbers → IsCutFound roads passable a b numbers
cut_found roads passable flags a b all numbers e none h m r = record { walk = reach_every roads.segments flags e a b (h.sound b m); none = none; nodes = r }

pub no_road_found : (roads : Roads) (flags : List Bool) (a b : ℕ) (all : List Bool) (numbers : List ℕ) → flags ≡ replicate (length roads.segments) true
    → AreMarked Forth roads (flagged flags) a all → slice_get all b ≡ Some false → AreReached roads.segments (flagged flags) a numbers → IsNoRoadFound roads a b numbers
no_road_found roads flags a b all numbers e h m r = record {
  none = λ reach. let k = h.complete b (reach_flagged roads.segments flags e a b reach) in bits (sym m ∙ k);
  nodes = reached_every roads.segments flags e a numbers r;
}
  where
    bits : Some false ≡ Some true → ⊥
    bits e = cc

pub none_found : (roads : Roads) (passable : List Bool) (a b : ℕ) (ps : List (Option ℕ)) → AreNear roads.segments (flagged passable) (length roads.nodes) a b ps → slice_get ps a ≡ Some None → CanReach roads.segments (flagged passable) a b → ⊥
none_found roads passable a b ps h at (path, walk) = h.here None at path walk

pub route_found : (roads : Roads) (passable : List Bool) (a b : ℕ) (segments : List ℕ) (feet : ℕ) (ps : List (Option ℕ)) → IsRoute roads.segments (flagged passable) a b segments
    → AreNear roads.segments (flagged passable) (length roads.nodes) a b ps → slice_get ps a ≡ Some (Some feet) → IsShortestRoute roads passable a b segments feet
route_found roads passable a b segments feet ps route h at =
    let least = h.here (Some feet) at in
    let (way, go, long) = least.reached in
    record {
      route = route;
      feet_is = omega (arith, least.least segments route.walk, route.least way go, long);
    }

-- with all potentials
pub route_shown : (roads : Roads) (passable : List Bool) (a b : ℕ) (segments : List ℕ) (feet : ℕ) (ps : List (Option ℕ)) → a < length roads.nodes → IsShortestRoute roads passable a b segments feet
    → ArePotentials roads.segments (flagged passable) (length roads.nodes) b ps → IsRouteFound roads passable a b segments feet ps
route_shown roads passable a b segments feet ps there shown h = record {
  route = shown.route;
  feet_is = shown.feet_is;
  potentials = h;
  at_start = let (p, at) = get_some ps a (omega (arith, h.many, there)) in either p at;
}
  where
    either : (p : Option ℕ) → slice_get ps a ≡ Some p → slice_get ps a ≡ Some (Some feet)
    either None at = absurd (h.each a None at segments shown.route.walk)
    either (Some d) at =
        let least = h.each a (Some d) at in
        let (way, go, long) = least.reached in
        let low = least.least segments shown.route.walk in
        let high = shown.route.least way go in
        let is : d ≡ feet = omega (arith, low, high, long, shown.feet_is) in
        at ∙ ap (λ (n : ℕ). Some (Some n)) is
