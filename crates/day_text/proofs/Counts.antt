-- Numbers that are added up, and elements that are counted by a key.
use Rattle.std.proofs.Common.{◌≡◌, ℕ, zero, suc, ◌+◌, ◌<◌, ◌≤◌, Bool, true, false, List, [], ◌∷◌, All, filter, length, cond, eqb, eq-eqb, ne_eqb, refl, ap, subst, arith}
use Rattle.std.proofs.lemmas.List.Elements.{All-head, All-tail}
use mathlib.Core.Logic.{dite}
use native.Mathlib.Decide.{ℕ_discrete}

-- f 0 + .. + f (n - 1)
abbrev pub below : (ℕ → ℕ) → ℕ → ℕ
below f zero = 0
below f (suc n) = below f n + f n

pub below-same : (f g : ℕ → ℕ) (n : ℕ) → ((i : ℕ) → i < n → f i ≡ g i) → below f n ≡ below g n
below-same f g zero same = refl
below-same f g (suc n) same = omega (arith, below-same f g n (λ i near. same i (omega arith)), same n (omega arith))

pub below-add : (f g : ℕ → ℕ) (n : ℕ) → below (λ i. f i + g i) n ≡ below f n + below g n
below-add f g zero = refl
below-add f g (suc n) = omega (arith, below-add f g n)

pub below-le : (f g : ℕ → ℕ) (n : ℕ) → ((i : ℕ) → i < n → f i ≤ g i) → below f n ≤ below g n
below-le f g zero le = omega arith
below-le f g (suc n) le = omega (arith, below-le f g n (λ i near. le i (omega arith)), le n (omega arith))

pub below-lt : (f g : ℕ → ℕ) (n j : ℕ) → ((i : ℕ) → i < n → f i ≤ g i) → j < n → f j < g j → below f n < below g n
below-lt f g zero j le within lt = absurd (omega arith)
below-lt f g (suc n) j le within lt = dite (ℕ_discrete j n)
    (λ e. let last : f n < g n = subst (λ (k : ℕ). f k < g k) e lt in omega (arith, last, below-le f g n (λ i near. le i (omega arith))))
    (λ ne. omega (arith, le n (omega arith), below-lt f g n j (λ i near. le i (omega arith)) (omega arith) lt))

pub below-zero : (n : ℕ) → below (λ i. 0) n ≡ 0
below-zero zero = refl
below-zero (suc n) = omega (arith, below-zero n)

abbrev one : Bool → ℕ
one true = 1
one false = 0

-- of n numbers none is c where c is too great, and else one is
below-none : (c n : ℕ) → n ≤ c → below (λ i. one (eqb c i)) n ≡ 0
below-none c zero h = refl
below-none c (suc n) h = let off : one (eqb c n) ≡ 0 = ap one (ne_eqb c n (λ e. omega arith)) in omega (arith, below-none c n (omega arith), off)

below-one : (c n : ℕ) → c < n → below (λ i. one (eqb c i)) n ≡ 1
below-one c zero h = absurd (omega arith)
below-one c (suc n) h = dite (ℕ_discrete c n)
    (λ e. let on : one (eqb c n) ≡ 1 = ap one (eq-eqb c n e) in omega (arith, below-none c n (omega arith), on))
    (λ ne. let off : one (eqb c n) ≡ 0 = ap one (ne_eqb c n ne) in omega (arith, below-one c n (omega arith), off))

module _ {A : Type 0} (key : A → ℕ) where
  -- the elements of one key
  abbrev pub having : ℕ → List A → List A
  having i xs = filter (λ x. eqb (key x) i) xs

  one_more : (i : ℕ) (x : A) (xs : List A) (b : Bool) → length (cond b (x ∷ having i xs) (having i xs)) ≡ one b + length (having i xs)
  one_more i x xs true = omega arith
  one_more i x xs false = omega arith

  -- where each key is below n, the elements of the keys below n are all
  pub count_all : (n : ℕ) (xs : List A) → All (λ x. key x < n) xs → below (λ i. length (having i xs)) n ≡ length xs
  count_all n [] within = below-zero n
  count_all n (x ∷ xs) within =
      let split = below-same (λ i. length (having i (x ∷ xs))) (λ i. one (eqb (key x) i) + length (having i xs)) n (λ i _. one_more i x xs (eqb (key x) i)) in
      let sum = below-add (λ i. one (eqb (key x) i)) (λ i. length (having i xs)) n in
      let mine = below-one (key x) n (All-head (λ y. key y < n) x xs within) in
      let rest = count_all n xs (All-tail (λ y. key y < n) x xs within) in
      omega (arith, split, sum, mine, rest)
