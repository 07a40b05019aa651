-- What stands at a place of a list after a push or a write.
use Rattle.std.proofs.Common.{◌≡◌, ◌≢◌, ◌⊎◌, ◌<◌, ◌∷◌, ◌++◌, [], ℕ, suc, zero, List, Some, length, map, set, refl, ap, inl, inr, arith}
use Rattle.std.specs.Prelude.{slice_get}

module _ {X : Type 0} where
  pub get-front : (xs ys : List X) (i : ℕ) (x : X) → slice_get xs i ≡ Some x → slice_get (xs ++ ys) i ≡ Some x
  get-front [] ys i x h = cc
  get-front (a ∷ xs) ys zero x h = h
  get-front (a ∷ xs) ys (suc i) x h = get-front xs ys i x h

  pub get-push_cases : (xs : List X) (x : X) (i : ℕ) (y : X) → slice_get (xs ++ x ∷ []) i ≡ Some y → (slice_get xs i ≡ Some y) ⊎ ((i ≡ length xs) × (y ≡ x))
  get-push_cases [] x zero y h = inr (refl, cc)
  get-push_cases [] x (suc i) y h = cc
  get-push_cases (a ∷ xs) x zero y h = inl h
  get-push_cases (a ∷ xs) x (suc i) y h =
      elim (get-push_cases xs x i y h) [ inl k ↦ inl k | inr k ↦ inr (ap suc k.0, k.1) ]

  -- what stands at a place after a write: what was written there, or what stood there
  pub get-set_cases : (xs : List X) (i : ℕ) (v : X) (j : ℕ) (y : X) → slice_get (set xs i v) j ≡ Some y → ((j ≡ i) × (y ≡ v)) ⊎ ((j ≢ i) × (slice_get xs j ≡ Some y))
  get-set_cases [] i v j y h = cc
  get-set_cases (a ∷ xs) zero v zero y h = inl (refl, cc)
  get-set_cases (a ∷ xs) zero v (suc j) y h = inr ((λ e. omega (arith, e)), h)
  get-set_cases (a ∷ xs) (suc i) v zero y h = inr ((λ e. omega (arith, e)), h)
  get-set_cases (a ∷ xs) (suc i) v (suc j) y h =
      elim (get-set_cases xs i v j y h) [ inl k ↦ inl (ap suc k.0, k.1) | inr k ↦ inr ((λ e. k.0 (omega (arith, e))), k.1) ]

  pub get_within : (xs : List X) (i : ℕ) (x : X) → slice_get xs i ≡ Some x → i < length xs
  get_within [] i x h = cc
  get_within (a ∷ xs) zero x h = omega arith
  get_within (a ∷ xs) (suc i) x h = let k : i < length xs = get_within xs i x h in omega arith

  -- what stands in a list that was mapped comes from what stood there
  pub get-map_some : {Y : Type 0} (f : X → Y) (xs : List X) (i : ℕ) (y : Y) → slice_get (map f xs) i ≡ Some y → (x : X) × (slice_get xs i ≡ Some x) × (f x ≡ y)
  get-map_some f [] i y h = cc
  get-map_some f (a ∷ xs) zero y h = (a, refl, cc)
  get-map_some f (a ∷ xs) (suc i) y h = get-map_some f xs i y h

  pub get-map : {Y : Type 0} (f : X → Y) (xs : List X) (i : ℕ) (x : X) → slice_get xs i ≡ Some x → slice_get (map f xs) i ≡ Some (f x)
  get-map f [] i x h = cc
  get-map f (a ∷ xs) zero x h = let e : a ≡ x = cc in ap (λ (b : X). Some (f b)) e
  get-map f (a ∷ xs) (suc i) x h = get-map f xs i x h

  -- at the end
  pub get-last : (xs : List X) (x : X) → slice_get (xs ++ x ∷ []) (length xs) ≡ Some x
  get-last [] x = refl
  get-last (a ∷ xs) x = get-last xs x

  -- where something was written
  pub get-set_same : (xs : List X) (i : ℕ) (v : X) → i < length xs → slice_get (set xs i v) i ≡ Some v
  get-set_same [] i v h = absurd (omega (arith, h))
  get-set_same (a ∷ xs) zero v h = refl
  get-set_same (a ∷ xs) (suc i) v h = get-set_same xs i v (omega arith)

  -- where something was written elsewhere
  pub get-set_other : (xs : List X) (k : ℕ) (v : X) (i : ℕ) → i ≢ k → slice_get (set xs k v) i ≡ slice_get xs i
  get-set_other [] k v i h = refl
  get-set_other (a ∷ xs) zero v zero h = absurd (h refl)
  get-set_other (a ∷ xs) zero v (suc i) h = refl
  get-set_other (a ∷ xs) (suc k) v zero h = refl
  get-set_other (a ∷ xs) (suc k) v (suc i) h = get-set_other xs k v i (λ e. h (ap suc e))

  -- there is something at each place within
  pub get_some : (xs : List X) (i : ℕ) → i < length xs → (x : X) × (slice_get xs i ≡ Some x)
  get_some [] i h = absurd (omega (arith, h))
  get_some (a ∷ xs) zero h = (a, refl)
  get_some (a ∷ xs) (suc i) h = get_some xs i (omega arith)
