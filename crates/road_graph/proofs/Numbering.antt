-- The elements of a list that pass a test, each with its number: after a push and a write, and which they are.
use Rattle.std.proofs.Common.{◌≡◌, ◌+◌, ◌<◌, ◌∷◌, ◌++◌, [], ℕ, suc, zero, List, Some, Bool, true, false, cond, length, map, set, refl, ap, sym, ◌∙◌, arith, append-nil}
use Rattle.std.specs.Prelude.{slice_get, filter}
use Rattle.std.specs.List.{enumerate_from}
use Rattle.std.proofs.lemmas.List.{map-append}
use Rattle.std.proofs.lemmas.List.Elements.{filter-append}

module _ {X : Type 0} where
  pub enumerate-push : (n k : ℕ) (xs : List X) (x : X) → n ≡ k + length xs → enumerate_from k (xs ++ x ∷ []) ≡ enumerate_from k xs ++ (n, x) ∷ []
  enumerate-push n k [] x e = let same : k ≡ n = omega (arith, e) in ap (λ (i : ℕ). (i, x) ∷ []) same
  enumerate-push n k (a ∷ xs) x e =
      ap (λ (rest : List (ℕ × X)). (k, a) ∷ rest) (enumerate-push n (k + 1) xs x (omega (arith, e)))

module _ {X Y : Type 0} (f : ℕ × X → Y) (p : X → Bool) where
  -- what f gives of each element that passes, numbered from k
  abbrev pub listed : ℕ → List X → List Y
  listed k xs = map f (filter (λ x. p x.1) (enumerate_from k xs))

  listed-append : (xs : List X) (x : X) → listed 0 (xs ++ x ∷ []) ≡ listed 0 xs ++ map f (cond (p x) ((length xs, x) ∷ []) [])
  listed-append xs x =
      ap (λ (rest : List (ℕ × X)). map f (filter (λ (y : ℕ × X). p y.1) rest)) (enumerate-push (length xs) 0 xs x (omega arith))
      ∙ ap (map f) (filter-append (λ (y : ℕ × X). p y.1) (enumerate_from 0 xs) ((length xs, x) ∷ []))
      ∙ map-append f (filter (λ (y : ℕ × X). p y.1) (enumerate_from 0 xs)) (cond (p x) ((length xs, x) ∷ []) [])

  -- one more that passes
  pub listed-more : (xs : List X) (x : X) → p x ≡ true → listed 0 (xs ++ x ∷ []) ≡ listed 0 xs ++ f (length xs, x) ∷ []
  listed-more xs x e = listed-append xs x ∙ ap (λ (b : Bool). listed 0 xs ++ map f (cond b ((length xs, x) ∷ []) [])) e

  -- one more that does not pass
  pub listed-same : (xs : List X) (x : X) → p x ≡ false → listed 0 (xs ++ x ∷ []) ≡ listed 0 xs
  listed-same xs x e =
      listed-append xs x ∙ ap (λ (b : Bool). listed 0 xs ++ map f (cond b ((length xs, x) ∷ []) [])) e ∙ append-nil (listed 0 xs)

  -- an element is written over by one that passes alike and gives the same
  pub listed-set : (k i : ℕ) (xs : List X) (x y : X) → slice_get xs i ≡ Some x → p y ≡ p x → ((n : ℕ) → f (n, y) ≡ f (n, x)) → listed k (set xs i y) ≡ listed k xs
  listed-set k i [] x y at same gives = cc
  listed-set k zero (a ∷ xs) x y at same gives =
      let is : x ≡ a = cc in
      let passes : p y ≡ p a = same ∙ ap p is in
      let gives2 : f (k, y) ≡ f (k, a) = gives k ∙ ap (λ (b : X). f (k, b)) is in
      let rest = filter (λ (z : ℕ × X). p z.1) (enumerate_from (k + 1) xs) in
      ap (λ (b : Bool). map f (cond b ((k, y) ∷ rest) rest)) passes
      ∙ elim (p a) as (λ b. map f (cond b ((k, y) ∷ rest) rest) ≡ map f (cond b ((k, a) ∷ rest) rest)) [
        | true ↦ ap (λ (h : Y). h ∷ map f rest) gives2
        | false ↦ refl
      ]
  listed-set k (suc i) (a ∷ xs) x y at same gives =
      let go : listed (k + 1) (set xs i y) ≡ listed (k + 1) xs = listed-set (k + 1) i xs x y at same gives in
      elim (p a) as (λ b. map f (cond b ((k, a) ∷ filter (λ (z : ℕ × X). p z.1) (enumerate_from (k + 1) (set xs i y))) (filter (λ (z : ℕ × X). p z.1) (enumerate_from (k + 1) (set xs i y))))
      ≡ map f (cond b ((k, a) ∷ filter (λ (z : ℕ × X). p z.1) (enumerate_from (k + 1) xs)) (filter (λ (z : ℕ × X). p z.1) (enumerate_from (k + 1) xs)))) [
        | true ↦ ap (λ (h : List Y). f (k, a) ∷ h) go
        | false ↦ go
      ]

module _ {X : Type 0} (p : X → Bool) where
  abbrev pub passing : ℕ → List X → List (ℕ × X)
  passing k xs = filter (λ x. p x.1) (enumerate_from k xs)

  -- each that is listed stands in the list, at the place of its number, and passes
  pub passing-sound : (k : ℕ) (xs : List X) (j : ℕ) (q : ℕ × X) → slice_get (passing k xs) j ≡ Some q
      → (m : ℕ) × (q.0 ≡ k + m) × (slice_get xs m ≡ Some q.1) × (p q.1 ≡ true)
  passing-sound k [] j q h = cc
  passing-sound k (a ∷ xs) j q h =
      (elim (p a) as (λ b. p a ≡ b → slice_get (cond b ((k, a) ∷ passing (k + 1) xs) (passing (k + 1) xs)) j ≡ Some q → (m : ℕ) × (q.0 ≡ k + m) × (slice_get (a ∷ xs) m ≡ Some q.1) × (p q.1 ≡ true)) [
        | true ↦ λ e here. sound_head k a xs j q e (λ i. passing-sound (k + 1) xs i q) here
        | false ↦ λ e here. sound_rest k a xs q (passing-sound (k + 1) xs j q here)
      ]) refl h
    where
      sound_rest : (k : ℕ) (a : X) (xs : List X) (q : ℕ × X) → (m : ℕ) × (q.0 ≡ (k + 1) + m) × (slice_get xs m ≡ Some q.1) × (p q.1 ≡ true)
          → (m : ℕ) × (q.0 ≡ k + m) × (slice_get (a ∷ xs) m ≡ Some q.1) × (p q.1 ≡ true)
      sound_rest k a xs q found = let (m, e, at, passes) = found in (suc m, omega (arith, e), at, passes)

      sound_head : (k : ℕ) (a : X) (xs : List X) (j : ℕ) (q : ℕ × X) → p a ≡ true
          → ((i : ℕ) → slice_get (passing (k + 1) xs) i ≡ Some q → (m : ℕ) × (q.0 ≡ (k + 1) + m) × (slice_get xs m ≡ Some q.1) × (p q.1 ≡ true))
          → slice_get ((k, a) ∷ passing (k + 1) xs) j ≡ Some q → (m : ℕ) × (q.0 ≡ k + m) × (slice_get (a ∷ xs) m ≡ Some q.1) × (p q.1 ≡ true)
      sound_head k a xs zero q e go here =
          let is : (k, a) ≡ q = cc in
          let value : a ≡ q.1 = ap (λ (x : ℕ × X). x.1) is in
          let number : k ≡ q.0 = ap (λ (x : ℕ × X). x.0) is in
          (0, omega (arith, number), ap (λ (x : X). Some x) value, ap p (sym value) ∙ e)
      sound_head k a xs (suc j) q e go here = sound_rest k a xs q (go j here)

  -- each that passes is listed with its number
  pub passing-complete : (k : ℕ) (xs : List X) (m : ℕ) (x : X) → slice_get xs m ≡ Some x → p x ≡ true → (n : ℕ) → n ≡ k + m → (j : ℕ) × (slice_get (passing k xs) j ≡ Some (n, x))
  passing-complete k [] m x h passes n e = cc
  passing-complete k (a ∷ xs) zero x h passes n e =
      let is : a ≡ x = cc in
      let first : p a ≡ true = ap p is ∙ passes in
      let number : k ≡ n = omega (arith, e) in
      (0, ap (λ (b : Bool). slice_get (cond b ((k, a) ∷ passing (k + 1) xs) (passing (k + 1) xs)) 0) first ∙ ap (λ (y : X). Some (k, y)) is ∙ ap (λ (i : ℕ). Some (i, x)) number)
  passing-complete k (a ∷ xs) (suc m) x h passes n e =
      let (j, at) = passing-complete (k + 1) xs m x h passes n (omega (arith, e)) in
      elim (p a) as (λ b. (i : ℕ) × (slice_get (cond b ((k, a) ∷ passing (k + 1) xs) (passing (k + 1) xs)) i ≡ Some (n, x))) [
        | true ↦ (suc j, at)
        | false ↦ (j, at)
      ]

  -- the numbers rise
  pub passing-rising : (k : ℕ) (xs : List X) (i j : ℕ) (q r : ℕ × X) → i < j → slice_get (passing k xs) i ≡ Some q → slice_get (passing k xs) j ≡ Some r → q.0 < r.0
  passing-rising k [] i j q r less hi hj = cc
  passing-rising k (a ∷ xs) i j q r less hi hj =
      (elim (p a) as (λ b. slice_get (cond b ((k, a) ∷ passing (k + 1) xs) (passing (k + 1) xs)) i ≡ Some q → slice_get (cond b ((k, a) ∷ passing (k + 1) xs) (passing (k + 1) xs)) j ≡ Some r → q.0 < r.0) [
        | true ↦ λ ei ej. rising_head k a xs i j q r less (λ s t. passing-rising (k + 1) xs s t q r) ei ej
        | false ↦ λ ei ej. passing-rising (k + 1) xs i j q r less ei ej
      ]) hi hj
    where
      rising_head : (k : ℕ) (a : X) (xs : List X) (i j : ℕ) (q r : ℕ × X) → i < j
          → ((s t : ℕ) → s < t → slice_get (passing (k + 1) xs) s ≡ Some q → slice_get (passing (k + 1) xs) t ≡ Some r → q.0 < r.0)
          → slice_get ((k, a) ∷ passing (k + 1) xs) i ≡ Some q → slice_get ((k, a) ∷ passing (k + 1) xs) j ≡ Some r → q.0 < r.0
      rising_head k a xs i zero q r less go hi hj = absurd (omega (arith, less))
      rising_head k a xs zero (suc j) q r less go hi hj =
          let is : (k, a) ≡ q = cc in
          let number : k ≡ q.0 = ap (λ (x : ℕ × X). x.0) is in
          let (m, e, at, passes) = passing-sound (k + 1) xs j r hj in omega (arith, number, e)
      rising_head k a xs (suc i) (suc j) q r less go hi hj = go i j (omega (arith, less)) hi hj
