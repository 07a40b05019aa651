-- The numbers of what is marked.
use Rattle.std.proofs.Common.{◌≡◌, ◌⊎◌, ◌<◌, ◌∷◌, ◌++◌, [], ℕ, suc, zero, List, Bool, true, false, Some, length, get_or, refl, ap, sym, inl, inr, arith, ◌∙◌}
use Rattle.std.specs.Prelude.{slice_get}
use Rattle.std.proofs.lemmas.Option.{get_or_from_slice_get}
use Rattle.std.proofs.lemmas.List.{append-nil}
use Rattle.std.proofs.lemmas.Bool.{cases_lt, false≢true}
use Rattle.road_graph.specs.Roads.{Roads}
use Rattle.road_graph.proofs.Places.{get-front, get-last, get-push_cases, get_within}
use Rattle.route_search.specs.Walks.{AreReached}
use Rattle.route_search.specs.declared.walks.Way.TheVariants.{Forth}
use Rattle.route_search.specs.Reaching.{AreMarked}
use Rattle.route_search.specs.Listing.{marked_below}

module _ (marked : List Bool) where
  below_true : (k : ℕ) → get_or marked k false ≡ true → marked_below marked (suc k) ≡ marked_below marked k ++ k ∷ []
  below_true k h = rw h refl

  below_false : (k : ℕ) → get_or marked k false ≡ false → marked_below marked (suc k) ≡ marked_below marked k
  below_false k h = rw (h, append-nil) refl

  bit : (b : Bool) → (b ≡ true) ⊎ (b ≡ false)
  bit true = inl refl
  bit false = inr refl

  pub below_is : (k j x : ℕ) → slice_get (marked_below marked k) j ≡ Some x → (x < k) × (get_or marked x false ≡ true)
  below_is zero j x h = cc
  below_is (suc k) j x h = elim (bit (get_or marked k false)) [
    | inl t ↦ elim (get-push_cases (marked_below marked k) k j x (rw (below_true k t) at h)) [
      | inl w ↦ (let e = below_is k j x w in (omega (arith, e.0), e.1))
      | inr w ↦ (omega (arith, w.1), rw w.1 t)
    ]
    | inr f ↦ (let e = below_is k j x (rw (below_false k f) at h) in (omega (arith, e.0), e.1))
  ]

  pub below_has : (k x : ℕ) → x < k → get_or marked x false ≡ true → (j : ℕ) × (slice_get (marked_below marked k) j ≡ Some x)
  below_has zero x low h = absurd (omega (arith, low))
  below_has (suc k) x low h = elim (bit (get_or marked k false)) [
    | inl t ↦ rw (below_true k t) (elim (cases_lt x k) [
      | inl w ↦ (let (j, at) = below_has k x w h in (j, get-front (marked_below marked k) (k ∷ []) j x at))
      | inr w ↦ (let is : x ≡ k = omega (arith, low, w) in (length (marked_below marked k), rw is (get-last (marked_below marked k) k)))
    ])
    | inr f ↦ rw (below_false k f) (elim (cases_lt x k) [
      | inl w ↦ below_has k x w h
      | inr w ↦ absurd (let is : k ≡ x = omega (arith, low, w) in false≢true (sym f ∙ ap (λ (n : ℕ). get_or marked n false) is ∙ h))
    ])
  ]

  pub below_rises : (k i j x y : ℕ) → i < j → slice_get (marked_below marked k) i ≡ Some x → slice_get (marked_below marked k) j ≡ Some y → x < y
  below_rises zero i j x y low a b = cc
  below_rises (suc k) i j x y low a b = elim (bit (get_or marked k false)) [
    | inl t ↦ elim (get-push_cases (marked_below marked k) k j y (rw (below_true k t) at b)) [
      | inl w ↦ elim (get-push_cases (marked_below marked k) k i x (rw (below_true k t) at a)) [
        | inl u ↦ below_rises k i j x y low u w
        | inr u ↦ absurd (omega (arith, u.0, low, get_within (marked_below marked k) j y w))
      ]
      | inr w ↦ elim (get-push_cases (marked_below marked k) k i x (rw (below_true k t) at a)) [
        | inl u ↦ (let e = below_is k i x u in omega (arith, e.0, w.1))
        | inr u ↦ absurd (omega (arith, u.0, w.0, low))
      ]
    ]
    | inr f ↦ below_rises k i j x y low (rw (below_false k f) at a) (rw (below_false k f) at b)
  ]

pub marked_at : (marked : List Bool) (v : ℕ) → get_or marked v false ≡ true → slice_get marked v ≡ Some true
marked_at [] v h = absurd (false≢true h)
marked_at (b ∷ rest) zero h = ap (λ (x : Bool). Some x) h
marked_at (b ∷ rest) (suc v) h = marked_at rest v h

pub listed_all : (roads : Roads) (may : ℕ → Bool) (from : ℕ) (marked : List Bool) → AreMarked Forth roads may from marked → AreReached roads.segments may from (marked_below marked (length roads.nodes))
listed_all roads may from marked h = record {
  rising = λ j k x y low a b. below_rises marked (length roads.nodes) j k x y low a b;
  sound = λ k v at. h.sound v (marked_at marked v (below_is marked (length roads.nodes) k v at).1);
  complete = λ v reach. let m = h.complete v reach in below_has marked (length roads.nodes) v (omega (arith, h.many, get_within marked v true m)) (get_or_from_slice_get marked v true false m);
}
