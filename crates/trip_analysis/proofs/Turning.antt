-- The flags of a truck go on from what it may pass before anything is posted.
use Rattle.std.proofs.Common.{◌≡◌, ◌⊎◌, ◌≢◌, ◌<◌, ◌≤◌, ◌+◌, ℕ, List, Bool, false, length, get_or, set, refl, sym, ap, ◌∙◌, subst, arith, inl, inr}
use Rattle.std.proofs.lemmas.Bool.{cases_eq, cases_lt}
use Rattle.std.proofs.lemmas.List.{ext_get_or, get_or-set_same, get_or-set_other, length-set}
use Rattle.std.proofs.lemmas.List.FromFn.{length-map-range_with_len}
use Rattle.road_graph.specs.Roads.{Roads}
use Rattle.restriction_log.specs.States.{AgreeOn, InForce, base_of}
use Rattle.snapshot_store.specs.Stores.{AreKept, IsLater, Stored, newly_stored, state_now}
use Rattle.snapshot_store.proofs.Changed.{agree_kept}
use Rattle.trip_analysis.specs.Bases.{BaseLists, truck_of}
use Rattle.std.specs.Prelude.{is_none, Option}
use Rattle.clearance_rules.specs.declared.limit.Limit.{Limit}
use Rattle.clearance_rules.proofs.Agreeing.{limits_agree}
use Rattle.trip_analysis.specs.Passing.{flags_of, is_passable}
use Rattle.trip_analysis.proofs.Flagged.{flag_is, flags_many}

-- two states that agree on a segment let a truck pass it alike
pub passes_alike : (base : BaseLists) (old new : InForce) (truck i : ℕ) → AgreeOn base.roads i old new → is_passable base old truck i ≡ is_passable base new truck i
passes_alike base old new truck i agree = ap (λ (l : Option Limit). is_none l) (sym (limits_agree base.roads old new (truck_of base truck).load i agree))

-- there is a flag for each segment: those of the segments below a number are of the new state, and the others of the old one
pub record AreTurnedBelow (base : BaseLists) (old new : InForce) (truck n : ℕ) (flags : List Bool) : Type 0 where
  pub many : length flags ≡ length base.roads.segments
  pub before : (i : ℕ) → i < n → i < length base.roads.segments → get_or flags i false ≡ is_passable base new truck i
  pub behind : (i : ℕ) → n ≤ i → i < length base.roads.segments → get_or flags i false ≡ is_passable base old truck i

-- before the first segment each flag is that of the old state
pub turned_none : (base : BaseLists) (old new : InForce) (truck : ℕ) (flags : List Bool) → flags ≡ flags_of base old truck → AreTurnedBelow base old new truck 0 flags
turned_none base old new truck flags is = record {
  many = flags_many base old truck flags is;
  before = λ i less there. absurd (omega (arith, less));
  behind = λ i low there. ap (λ (l : List Bool). get_or l i false) is ∙ flag_is base old truck i there;
}

-- some segments more, on which the states agree
pub turned_kept : (base : BaseLists) (old new : InForce) (truck n m : ℕ) (flags : List Bool) → n ≤ m → ((i : ℕ) → n ≤ i → i < m → AgreeOn base.roads i old new)
    → AreTurnedBelow base old new truck n flags → AreTurnedBelow base old new truck m flags
turned_kept base old new truck n m flags up agree turned = record {
  many = turned.many;
  before = λ i less there. elim (cases_lt i n) [
    | inl passed ↦ turned.before i passed there
    | inr low ↦ turned.behind i low there ∙ passes_alike base old new truck i (agree i low less)
  ];
  behind = λ i low there. turned.behind i (omega (arith, low, up)) there;
}

-- some segments more, which no posting names
pub turned_unposted : (base : BaseLists) (next : Stored) (truck n m : ℕ) (flags : List Bool) → next.roads ≡ base.roads → n ≤ m → AreKept next 0 n m
    → AreTurnedBelow base (base_of base.roads) (state_now next) truck n flags → AreTurnedBelow base (base_of base.roads) (state_now next) truck m flags
turned_unposted base next truck n m flags roads up kept turned = turned_kept base (base_of base.roads) (state_now next) truck n m flags up agree turned
  where
    begun : IsLater (newly_stored base.roads) next
    begun = record { roads = roads; more = next.postings; postings = refl }

    agree : (i : ℕ) → n ≤ i → i < m → AgreeOn base.roads i (base_of base.roads) (state_now next)
    agree i low less = subst (λ (r : Roads). AgreeOn r i (base_of base.roads) (state_now next)) roads (agree_kept (newly_stored base.roads) next i begun (kept i low less))

-- one segment more, which is tested
pub turned_judged : (base : BaseLists) (old new : InForce) (truck n : ℕ) (flags judged : List Bool) → n < length base.roads.segments → judged ≡ set flags n (is_passable base new truck n)
    → AreTurnedBelow base old new truck n flags → AreTurnedBelow base old new truck (n + 1) judged
turned_judged base old new truck n flags judged within is turned = record {
  many = ap length is ∙ (length-set flags n flag ∙ turned.many);
  before = λ i less there. here i less there (cases_eq i n);
  behind = λ i low there. elsewhere i (omega (arith, low)) ∙ turned.behind i (omega (arith, low)) there;
}
  where
    flag : Bool
    flag = is_passable base new truck n

    elsewhere : (i : ℕ) → i ≢ n → get_or judged i false ≡ get_or flags i false
    elsewhere i other = ap (λ (l : List Bool). get_or l i false) is ∙ get_or-set_other flags n i flag false other

    here : (i : ℕ) → i < n + 1 → i < length base.roads.segments → (i ≡ n) ⊎ (i ≡ n → ⊥) → get_or judged i false ≡ is_passable base new truck i
    here i less there (inl same) =
        subst (λ (k : ℕ). get_or judged k false ≡ is_passable base new truck k) (sym same)
        (ap (λ (l : List Bool). get_or l n false) is ∙ get_or-set_same flags n flag false (omega (arith, within, turned.many)))
    here i less there (inr other) = elsewhere i other ∙ turned.before i (omega (arith, less, other)) there

-- behind the last segment each flag is that of the new state
pub turned_all : (base : BaseLists) (old new : InForce) (truck n : ℕ) (flags : List Bool) → length base.roads.segments ≤ n → AreTurnedBelow base old new truck n flags → flags ≡ flags_of base new truck
turned_all base old new truck n flags whole turned =
    let count : length (flags_of base new truck) ≡ length base.roads.segments = length-map-range_with_len (is_passable base new truck) 0 (length base.roads.segments) in
    ext_get_or false flags (flags_of base new truck) (turned.many ∙ sym count) (λ i less.
    let there : i < length base.roads.segments = omega (arith, less, turned.many) in
    turned.before i (omega (arith, there, whole)) there ∙ sym (flag_is base new truck i there))
