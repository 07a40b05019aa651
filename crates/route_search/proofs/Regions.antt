-- What a region tells.
use Rattle.std.proofs.Common.{◌≡◌, ◌&&◌, ◌++◌, ℕ, List, Bool, true, false, not, Some, length, get_or, replicate, refl, sym, ◌∙◌}
use Rattle.std.specs.Prelude.{slice_get}
use Rattle.std.proofs.lemmas.Bool.{false≢true}
use Rattle.std.proofs.lemmas.Option.{get_or_from_slice_get}
use Rattle.road_graph.specs.declared.segment.Segment.{Segment}
use Rattle.road_graph.specs.Roads.{Roads}
use Rattle.route_search.specs.declared.region.Reached.{Reached}
use Rattle.route_search.specs.declared.region.Region.{Region}
use Rattle.route_search.specs.Walks.{AreReached, CanReach, every, flagged}
use Rattle.route_search.specs.Founds.{IsCutFound, IsNoRoadFound}
use Rattle.route_search.specs.Reaching.{IsMarked}
use Rattle.route_search.specs.Regions.{AreReachedFrom, IsCutOff, IsRegion, is_cut_off}
use Rattle.route_search.proofs.Joined.{walk_join}
use Rattle.route_search.proofs.Listed.{marked_at}
use Rattle.route_search.proofs.Outcomes.{reach_every, reach_flagged, reached_every, to_every}

-- over set flags what is reached is what any walks reach
pub from_every : (roads : Roads) (flags : List Bool) (root : ℕ) (reached : Reached) → flags ≡ replicate (length roads.segments) true → AreReachedFrom roads (flagged flags) root reached → AreReachedFrom roads every root reached
from_every roads flags root reached e h = record {
  marks = record {
    many = h.marks.many;
    sound = λ v m. reach_every roads.segments flags e root v (h.marks.sound v m);
    complete = λ v lead. h.marks.complete v (reach_flagged roads.segments flags e root v lead);
  };
  numbers = reached_every roads.segments flags e root reached.numbers h.numbers;
}

module _ (segments : List Segment) (may : ℕ → Bool) where
  pub reach_join : (a b c : ℕ) → CanReach segments may a b → CanReach segments may b c → CanReach segments may a c
  reach_join a b c (way, walk) (path, on) = (way ++ path, walk_join segments may a b c way path walk on)

  -- nodes that reach one another reach the same nodes
  reached_alike : (a b : ℕ) (numbers : List ℕ) → CanReach segments may a b → CanReach segments may b a → AreReached segments may a numbers → AreReached segments may b numbers
  reached_alike a b numbers forth back h = record {
    rising = h.rising;
    sound = λ k v at. reach_join b a v back (h.sound k v at);
    complete = λ v lead. h.complete v (reach_join a b v forth lead);
  }

  any_reach : (a b : ℕ) → CanReach segments may a b → CanReach segments every a b
  any_reach a b (path, walk) = (path, to_every segments may a b path walk)

-- a test of three bits
all_three : (x y z : Bool) → (x && (y && not z)) ≡ true → (x ≡ true) × (y ≡ true) × (z ≡ false)
all_three true true false e = (refl, refl, refl)
all_three true true true e = absurd (false≢true e)
all_three true false z e = absurd (false≢true e)
all_three false y z e = absurd (false≢true e)

not_third : (x y z : Bool) → (x && (y && not z)) ≡ false → x ≡ true → y ≡ true → z ≡ true
not_third true true true e a b = refl
not_third true true false e a b = absurd (false≢true (sym e))
not_third true false z e a b = absurd (false≢true b)
not_third false y z e a b = absurd (false≢true a)

module _ (roads : Roads) (passable : List Bool) (root : ℕ) (region : Region) (is : IsRegion roads passable root region) (a b : ℕ) where
  pub cut_off : is_cut_off region a b ≡ true → IsCutOff roads passable root a b
  cut_off e =
      let (here, back, far) = all_three (get_or region.passable.marks.items a false) (get_or region.leading_in.items a false) (get_or region.passable.marks.items b false) e in
      let forth = is.passable_is.marks.sound a (marked_at region.passable.marks.items a here) in
      record {
        joined = record { forth = forth; back = is.back_is.sound a (marked_at region.leading_in.items a back) };
        none = λ lead.
            let m = is.passable_is.marks.complete b (reach_join roads.segments (flagged passable) root a b forth lead) in
            false≢true (sym far ∙ get_or_from_slice_get region.passable.marks.items b true false m);
      }

  pub not_cut_off : is_cut_off region a b ≡ false → IsCutOff roads passable root a b → ⊥
  not_cut_off e off =
      let here = get_or_from_slice_get region.passable.marks.items a true false (is.passable_is.marks.complete a off.joined.forth) in
      let back = get_or_from_slice_get region.leading_in.items a true false (is.back_is.complete a off.joined.back) in
      let on = not_third (get_or region.passable.marks.items a false) (get_or region.leading_in.items a false) (get_or region.passable.marks.items b false) e here back in
      off.none (reach_join roads.segments (flagged passable) a root b off.joined.back (is.passable_is.marks.sound b (marked_at region.passable.marks.items b on)))

  pub cut_told : IsCutOff roads passable root a b → IsMarked region.any.marks.items b → IsCutFound roads passable a b region.passable.numbers
  cut_told off some = record {
    walk = reach_join roads.segments every a root b (any_reach roads.segments (flagged passable) a root off.joined.back) (is.any_is.marks.sound b some);
    none = off.none;
    nodes = reached_alike roads.segments (flagged passable) root a region.passable.numbers off.joined.forth off.joined.back is.passable_is.numbers;
  }

  pub no_road_told : IsCutOff roads passable root a b → slice_get region.any.marks.items b ≡ Some false → IsNoRoadFound roads a b region.any.numbers
  no_road_told off far =
      let forth = any_reach roads.segments (flagged passable) root a off.joined.forth in
      let back = any_reach roads.segments (flagged passable) a root off.joined.back in
      record {
        none = λ lead.
            let m = is.any_is.marks.complete b (reach_join roads.segments every root a b forth lead) in
            false≢true (sym (get_or_from_slice_get region.any.marks.items b false false far) ∙ get_or_from_slice_get region.any.marks.items b true false m);
        nodes = reached_alike roads.segments every root a region.any.numbers forth back is.any_is.numbers;
      }
