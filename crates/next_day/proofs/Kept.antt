-- The trucks that go on are there, each once.
use Rattle.std.proofs.Common.{◌≡◌, ◌<◌, ◌≤◌, ◌+◌, ◌∷◌, ℕ, suc, zero, Bool, true, false, cond, List, Some, get_or, length, map, refl, ap, sym, ◌∙◌, arith}
use Rattle.std.specs.Prelude.{filter, slice_get, not, ◌||◌}
use Rattle.std.specs.List.{All, range_with_len}
use Rattle.std.proofs.lemmas.List.{length-map}
use Rattle.std.proofs.lemmas.List.Elements.{All-map}
use Rattle.std.proofs.lemmas.Option.{slice_get-get_or}
use Rattle.road_graph.specs.Roads.{AreDistinct}
use Rattle.road_graph.proofs.Places.{get-map, get-map_some}
use Rattle.trip_analysis.specs.Bases.{BaseLists, no_truck, truck_of}
use Rattle.trip_analysis.specs.Findings.{is_number_among}
use Rattle.trip_analysis.specs.declared.base.Truck.{Truck}
use Rattle.day_text.specs.Fleets.{truck_names}
use Rattle.next_day.specs.NextDay.{trucks_kept, trucks_of}
use Rattle.next_day.specs.Standing.{Standing}

module _ (p : ℕ → Bool) where
  -- what passes among the numbers from a on is one of them
  from_range : (a k i t : ℕ) → slice_get (filter p (range_with_len a k)) i ≡ Some t → (a ≤ t) × (t < a + k)
  from_range a zero i t h = cc
  from_range a (suc k) i t h = by (λ j g. from_range (a + 1) k j t g) (p a) i h
    where
      by : ((j : ℕ) → slice_get (filter p (range_with_len (a + 1) k)) j ≡ Some t → (a + 1 ≤ t) × (t < a + 1 + k)) → (b : Bool) (i : ℕ) → slice_get (cond b (a ∷ filter p (range_with_len (a + 1) k)) (filter p (range_with_len (a + 1) k))) i ≡ Some t → (a ≤ t) × (t < a + suc k)
      by behind true zero h = let is : a ≡ t = cc in (omega (arith, is), omega (arith, is))
      by behind true (suc i) h = let r = behind i h in (omega (arith, r.0), omega (arith, r.1))
      by behind false i h = let r = behind i h in (omega (arith, r.0), omega (arith, r.1))

  -- and stands there once
  once_in_range : (a k i j t : ℕ) → slice_get (filter p (range_with_len a k)) i ≡ Some t → slice_get (filter p (range_with_len a k)) j ≡ Some t → i ≡ j
  once_in_range a zero i j t h g = cc
  once_in_range a (suc k) i j t h g = by (λ m n f e. once_in_range (a + 1) k m n t f e) (p a) i j h g
    where
      by : ((m n : ℕ) → slice_get (filter p (range_with_len (a + 1) k)) m ≡ Some t → slice_get (filter p (range_with_len (a + 1) k)) n ≡ Some t → m ≡ n) → (b : Bool) (i j : ℕ) → slice_get (cond b (a ∷ filter p (range_with_len (a + 1) k)) (filter p (range_with_len (a + 1) k))) i ≡ Some t
          → slice_get (cond b (a ∷ filter p (range_with_len (a + 1) k)) (filter p (range_with_len (a + 1) k))) j ≡ Some t → i ≡ j
      by behind true zero zero h g = refl
      by behind true zero (suc j) h g = let is : a ≡ t = cc in absurd (omega (arith, is, (from_range (a + 1) k j t g).0))
      by behind true (suc i) zero h g = let is : a ≡ t = cc in absurd (omega (arith, is, (from_range (a + 1) k i t h).0))
      by behind true (suc i) (suc j) h g = ap suc (behind i j h g)
      by behind false i j h g = behind i j h g

  few_in_range : (a k : ℕ) → length (filter p (range_with_len a k)) ≤ k
  few_in_range a zero = omega arith
  few_in_range a (suc k) = by (few_in_range (a + 1) k) (p a)
    where
      by : length (filter p (range_with_len (a + 1) k)) ≤ k → (b : Bool) → length (cond b (a ∷ filter p (range_with_len (a + 1) k)) (filter p (range_with_len (a + 1) k))) ≤ suc k
      by few true = omega (arith, few)
      by few false = omega (arith, few)

module _ (only : Bool) (base : BaseLists) (standing : List Standing) where
  abbrev Kept : List ℕ
  Kept = trucks_kept only (length base.fleet) standing

  pub kept_few : length (map (truck_of base) Kept) ≤ length base.fleet
  kept_few = omega (arith, few_in_range (λ t. not only || is_number_among t (trucks_of standing)) 0 (length base.fleet), length-map Kept (truck_of base))

  pub kept_there : All (λ t. t < length base.fleet) Kept
  kept_there k d within =
      let at = slice_get-get_or Kept k d within in
      omega (arith, (from_range (λ t. not only || is_number_among t (trucks_of standing)) 0 (length base.fleet) k (get_or Kept k d) at).1)

  -- what holds of each truck holds of each that goes on
  pub kept_all : (P : Truck → Type 0) → All P base.fleet → All P (map (truck_of base) Kept)
  kept_all P all = All-map P (truck_of base) Kept (λ k d within. all (get_or Kept k d) _ (kept_there k d within))

  pub kept_distinct : AreDistinct (truck_names base.fleet) → AreDistinct (truck_names (map (truck_of base) Kept))
  kept_distinct h = record {
    once = λ i j name at also.
        let (t, here, is) = get-map_some (λ (t : Truck). t.name) (map (truck_of base) Kept) i name at in
        let (u, there, was) = get-map_some (λ (t : Truck). t.name) (map (truck_of base) Kept) j name also in
        let (m, first, one) = get-map_some (truck_of base) Kept i t here in
        let (n, second, two) = get-map_some (truck_of base) Kept j u there in
        let same : m ≡ n = h.once m n name (named m name (kept_at i m first) (ap (λ (t : Truck). t.name) one ∙ is)) (named n name (kept_at j n second) (ap (λ (t : Truck). t.name) two ∙ was)) in
        once_in_range (λ t. not only || is_number_among t (trucks_of standing)) 0 (length base.fleet) i j m first (second ∙ ap Some (sym same));
  }
    where
      kept_at : (i m : ℕ) → slice_get Kept i ≡ Some m → m < length base.fleet
      kept_at i m at = omega (arith, (from_range (λ t. not only || is_number_among t (trucks_of standing)) 0 (length base.fleet) i m at).1)

      named : (m : ℕ) (name : List ℕ) → m < length base.fleet → (truck_of base m).name ≡ name → slice_get (truck_names base.fleet) m ≡ Some name
      named m name within is = get-map (λ (t : Truck). t.name) base.fleet m (truck_of base m) (slice_get-get_or base.fleet m no_truck within) ∙ ap Some is
