-- What is known of the trucks goes on from a state to another.
use Rattle.std.proofs.Common.{◌≡◌, ◌==◌, ◌&&◌, ◌<◌, ◌≤◌, ◌+◌, ℕ, List, false, not, length, get_or, sym, subst, arith, Option, Some, None}
use Rattle.std.specs.Prelude.{IfSome}
use Rattle.std.proofs.lemmas.Option.{IfSome_then, get_or_from_slice_get}
use Rattle.std.proofs.Math.Bool.{beq}
use Rattle.road_graph.specs.declared.values.Values.{Values}
use Rattle.road_graph.specs.Roads.{AreSpansOf, Roads}
use Rattle.road_graph.proofs.Places.{get_within}
use Rattle.restriction_log.specs.States.{InForce, AgreeOn, rating_at, values_at}
use Rattle.snapshot_store.specs.Stores.{AreKept, IsLater, Stored, state_now, store_version_of}
use Rattle.snapshot_store.proofs.Changed.{agree_kept}
use Rattle.route_search.specs.Heights.{AreHeights}
use Rattle.trip_analysis.specs.declared.analyst.Analyst.{Analyst}
use Rattle.trip_analysis.specs.declared.known.Known.{Known}
use Rattle.trip_analysis.specs.Bases.{BaseLists}
use Rattle.trip_analysis.proofs.Turning.{AreTurnedBelow, turned_all, turned_judged, turned_kept, turned_none}
use Rattle.trip_analysis.specs.Known.{AreJudged, AreKnown, AreOfFleet, IsJudged, IsOfRoads}

-- limits that a test finds equal are the same
pub same_values : (v w : Values) → not ((beq v.closed w.closed) && ((v.height == w.height) && ((v.width == w.width) && ((v.length == w.length) && ((v.gross == w.gross) && ((v.allowance == w.allowance) && (v.tridem == w.tridem))))))) ≡ false → v ≡ w
same_values v w e = grind (arith, e)

-- where the limits of a segment and the ratings of its spans, which these are, are the same, the states agree on it
pub agree_if : (roads : Roads) (old new : InForce) (segment n : ℕ) (spans : List ℕ) → values_at old.values segment ≡ values_at new.values segment → AreSpansOf roads.spans segment spans → length spans ≤ n
    → ((k : ℕ) → k < n → rating_at new.ratings (get_or spans k 0) ≡ rating_at old.ratings (get_or spans k 0)) → AgreeOn roads segment old new
agree_if roads old new segment n spans same are whole each = record {
  values = sym same;
  ratings = λ i t at on.
      let (k, here) = are.complete i t at on in
      let is : get_or spans k 0 ≡ i = get_or_from_slice_get spans k i 0 here in
      subst (λ (j : ℕ). rating_at new.ratings j ≡ rating_at old.ratings j) is (each k (omega (arith, get_within spans k i here, whole)));
}

-- what is known of a truck while one segment after another is looked at: of those below a number in the new state, and of the
-- others in the old one
pub record IsKnownBelow (base : BaseLists) (old new : InForce) (n truck : ℕ) (known : Known) : Type 0 where
  pub of_roads : IsOfRoads base.roads known
  pub turned : AreTurnedBelow base old new truck n known.passable.items

-- one segment more, which is judged anew
below_judged : (base : BaseLists) (old new : InForce) (n truck : ℕ) (known judged : Option Known) → n < length base.roads.segments → IsJudged base new n truck known judged
    → IfSome known (IsKnownBelow base old new n truck) → IfSome judged (IsKnownBelow base old new (n + 1) truck)
below_judged base old new n truck None None within is below = tt
below_judged base old new n truck None (Some judged) within is below = absurd (cc)
below_judged base old new n truck (Some known) None within is below = absurd is
below_judged base old new n truck (Some known) (Some judged) within is below = record {
  of_roads = is.of_roads;
  turned = turned_judged base old new truck n known.passable.items judged.passable.items within is.passable below.turned;
}

-- what is known of each truck meanwhile
pub record AreKnownBelow (base : BaseLists) (old new : InForce) (n : ℕ) (a : Analyst) : Type 0 where
  pub heights : AreHeights base.roads.segments a.tables.heights
  pub many : length a.known.items ≡ length base.fleet
  pub each : (truck : ℕ) (d : Option Known) → truck < length base.fleet → IfSome (get_or a.known.items truck d) (IsKnownBelow base old new n truck)

-- before the first segment all is known in the old state
pub are_below_none : (base : BaseLists) (old new : InForce) (a : Analyst) → AreKnown base old a → AreKnownBelow base old new 0 a
are_below_none base old new a are = record {
  heights = are.heights;
  many = are.many;
  each = λ truck d less. IfSome_then (get_or a.known.items truck d) (are.each truck d less) (λ known is. record {
    of_roads = is.of_roads;
    turned = turned_none base old new truck known.passable.items is.passable;
  });
}

-- behind the last segment all is known in the new one
pub are_below_all : (base : BaseLists) (old new : InForce) (n : ℕ) (a : Analyst) → length base.roads.segments ≤ n → AreKnownBelow base old new n a → AreKnown base new a
are_below_all base old new n a whole are = record {
  heights = are.heights;
  many = are.many;
  each = λ truck d less. IfSome_then (get_or a.known.items truck d) (are.each truck d less) (λ known below. record {
    passable = turned_all base old new truck n known.passable.items whole below.turned;
    of_roads = below.of_roads;
  });
}

-- some segments more, on which the states agree
are_below_kept : (base : BaseLists) (old new : InForce) (n m : ℕ) (a : Analyst) → n ≤ m → ((i : ℕ) → n ≤ i → i < m → AgreeOn base.roads i old new)
    → AreKnownBelow base old new n a → AreKnownBelow base old new m a
are_below_kept base old new n m a up agree are = record {
  heights = are.heights;
  many = are.many;
  each = λ truck d less. IfSome_then (get_or a.known.items truck d) (are.each truck d less) (λ known below. record {
    of_roads = below.of_roads;
    turned = turned_kept base old new truck n m known.passable.items up agree below.turned;
  });
}

-- some segments more, which no posting since a version names
pub are_below_unchanged : (base : BaseLists) (last next : Stored) (after n m : ℕ) (a : Analyst) → next.roads ≡ base.roads → IsLater last next → after ≡ store_version_of last
    → n ≤ m → AreKept next after n m → AreKnownBelow base (state_now last) (state_now next) n a → AreKnownBelow base (state_now last) (state_now next) m a
are_below_unchanged base last next after n m a roads later version up kept are =
    let since : AreKept next (store_version_of last) n m = subst (λ v. AreKept next v n m) version kept in
    are_below_kept base (state_now last) (state_now next) n m a up (λ i low less. subst (λ (r : Roads). AgreeOn r i (state_now last) (state_now next)) roads (agree_kept last next i later (since i low less))) are

pub are_below_same : (base : BaseLists) (old new : InForce) (n : ℕ) (a : Analyst) → AgreeOn base.roads n old new → AreKnownBelow base old new n a → AreKnownBelow base old new (n + 1) a
are_below_same base old new n a agree are =
    are_below_kept base old new n (n + 1) a (omega arith) (λ i low less. subst (λ (k : ℕ). AgreeOn base.roads k old new) (omega (arith, low, less)) agree) are

pub are_below_judged : (base : BaseLists) (old new : InForce) (n : ℕ) (a b : Analyst) → n < length base.roads.segments → AreJudged base new n a b → AreKnownBelow base old new n a → AreKnownBelow base old new (n + 1) b
are_below_judged base old new n a b within judged are = record {
  heights = subst (AreHeights base.roads.segments) (sym judged.heights) are.heights;
  many = judged.many;
  each = λ truck d less. below_judged base old new n truck (get_or a.known.items truck d) (get_or b.known.items truck d) within (judged.each truck d less) (are.each truck d less);
}
