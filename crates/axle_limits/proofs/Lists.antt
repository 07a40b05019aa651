-- Lists made of lists, and what stands in order.
use Rattle.std.proofs.Common.{◌≡◌, ℕ, zero, suc, ◌+◌, ◌-◌, ◌<◌, ◌≤◌, ◌⊎◌, List, [], ◌∷◌, ◌++◌, length, map, filter, find, get_or, Bool, true, false, cond, Some, None, Contains, AllPairs, flat_map, length-append, append_assoc, arith, refl, sym, ap, ◌∙◌, inl, inr}
use Rattle.std.specs.List.{range_with_len}
use Rattle.std.proofs.lemmas.Bool.{cases_lt}
use Rattle.std.proofs.lemmas.List.{append-nil, get_or_append_left, get_or-append_right, get_or-map, length-map}
use Rattle.std.proofs.lemmas.List.Elements.{Contains-get_or}

-- two lists in order, one after the other
pub pairs_append : {X : Type 0} (R : X → X → Type 0) (xs ys : List X) → AllPairs R xs → AllPairs R ys
    → ((x y : X) → Contains xs x → Contains ys y → R x y) → AllPairs R (xs ++ ys)
pairs_append R xs ys front back across i j d before inside = by (cases_lt i (length xs)) (cases_lt j (length xs))
  where
    ends : j < length xs + length ys
    ends = omega (arith, inside, length-append xs ys)

    left : (k : ℕ) → k < length xs → get_or (xs ++ ys) k d ≡ get_or xs k d
    left k h = get_or_append_left xs ys d k h

    right : (k : ℕ) → length xs ≤ k → get_or (xs ++ ys) k d ≡ get_or ys (k - length xs) d
    right k h = get_or-append_right xs ys (length xs) k d refl h

    by : ((i < length xs) ⊎ (length xs ≤ i)) → ((j < length xs) ⊎ (length xs ≤ j)) → R (get_or (xs ++ ys) i d) (get_or (xs ++ ys) j d)
    by (inl h) (inl k) = rw (left i h, left j k) (front i j d before k)
    by (inl h) (inr k) = rw (left i h, right j k) (across (get_or xs i d) (get_or ys (j - length xs) d) (Contains-get_or xs i d h) (Contains-get_or ys (j - length xs) d (omega (arith, k, ends))))
    by (inr h) (inl k) = absurd (omega (arith, before, h, k))
    by (inr h) (inr k) = rw (right i h, right j k) (back (i - length xs) (j - length xs) d (omega (arith, before, h, k)) (omega (arith, k, ends)))

-- what is made of the elements of a list in order is in order
pub pairs_map : {X Y : Type 0} (R : X → X → Type 0) (S : Y → Y → Type 0) (f : X → Y) (e : X) (xs : List X) → AllPairs R xs
    → ((x y : X) → Contains xs x → Contains xs y → R x y → S (f x) (f y)) → AllPairs S (map f xs)
pairs_map R S f e xs pairs keeps i j d before inside =
    let last : j < length xs = omega (arith, inside, length-map xs f) in
    let first : i < length xs = omega (arith, last, before) in
    rw (get_or-map f xs i e d first, get_or-map f xs j e d last) (keeps (get_or xs i e) (get_or xs j e) (Contains-get_or xs i e first) (Contains-get_or xs j e last) (pairs i j e before last))

pub contains_map : {X Y : Type 0} (f : X → Y) (xs : List X) (x : X) → Contains xs x → Contains (map f xs) (f x)
contains_map f xs x (k, inside, at) = (k, omega (arith, inside, length-map xs f), get_or-map f xs k x (f x) inside ∙ ap f at)

pub contains_filter : {X : Type 0} (p : X → Bool) (xs : List X) (x : X) → p x ≡ true → Contains xs x → Contains (filter p xs) x
contains_filter p [] x passes (k, inside, at) = absurd (omega (arith, inside))
contains_filter p (y ∷ xs) x passes (zero, inside, at) = rw (at, passes) (0, omega arith, refl)
contains_filter p (y ∷ xs) x passes (suc k, inside, at) = by (p y) (contains_filter p xs x passes (k, omega (arith, inside), at))
  where
    by : (b : Bool) → Contains (filter p xs) x → Contains (cond b (y ∷ filter p xs) (filter p xs)) x
    by true (n, within, here) = (suc n, omega (arith, within), here)
    by false there = there

-- one list more
pub flat_map_more : {X : Type 0} (f : ℕ → List X) (a n : ℕ) → flat_map f (range_with_len a (suc n)) ≡ flat_map f (range_with_len a n) ++ f (a + n)
flat_map_more f a zero = let same : a + 0 ≡ a = omega arith in append-nil (f a) ∙ ap f (sym same)
flat_map_more f a (suc n) =
    let same : a + 1 + n ≡ a + suc n = omega arith in
    ap (λ t. f a ++ t) (flat_map_more f (a + 1) n ∙ ap (λ t. flat_map f (range_with_len (a + 1) n) ++ f t) same)
    ∙ sym (append_assoc (f a) (flat_map f (range_with_len (a + 1) n)) (f (a + suc n)))

-- an element that a search found: it passes, and none before it does
pub record IsFirst {X : Type 0} (p : X → Bool) (xs : List X) (x : X) : Type 0 where
  pub place : ℕ
  pub within : place < length xs
  pub at : (d : X) → get_or xs place d ≡ x
  pub passes : p x ≡ true
  pub before : (k : ℕ) (d : X) → k < place → p (get_or xs k d) ≡ false

pub found_first : {X : Type 0} (p : X → Bool) (xs : List X) (x : X) → find p xs ≡ Some x → IsFirst p xs x
found_first p [] x e = absurd cc
found_first p (y ∷ xs) x e = by (p y) refl e (found_first p xs x)
  where
    by : (b : Bool) → p y ≡ b → cond b (Some y) (find p xs) ≡ Some x → (find p xs ≡ Some x → IsFirst p xs x) → IsFirst p (y ∷ xs) x
    by true is e later = let same : y ≡ x = cc in record { place = 0; within = omega arith; at = λ d. same; passes = ap p (sym same) ∙ is; before = λ k d h. absurd (omega arith) }
    by false is e later = let first = later e in record { place = suc first.place; within = omega (arith, first.within); at = first.at; passes = first.passes; before = earlier first }
      where
        earlier : (first : IsFirst p xs x) (k : ℕ) (d : _) → k < suc first.place → p (get_or (y ∷ xs) k d) ≡ false
        earlier first zero d h = is
        earlier first (suc k) d h = first.before k d (omega (arith, h))

-- where a search finds nothing, none passes
pub found_none : {X : Type 0} (p : X → Bool) (xs : List X) → find p xs ≡ None → (x : X) → Contains xs x → p x ≡ false
found_none p [] e x (k, inside, at) = absurd (omega (arith, inside))
found_none p (y ∷ xs) e x there = by (p y) refl e there (found_none p xs)
  where
    by : (b : Bool) → p y ≡ b → cond b (Some y) (find p xs) ≡ None → Contains (y ∷ xs) x → (find p xs ≡ None → (z : _) → Contains xs z → p z ≡ false) → p x ≡ false
    by true is e there later = absurd cc
    by false is e (zero, inside, at) later = ap p (sym at) ∙ is
    by false is e (suc k, inside, at) later = later e x (k, omega (arith, inside), at)
