-- The elements of a range of numbers, of a map and of joined lists.
use Rattle.std.proofs.Common.{◌≡◌, ℕ, zero, suc, ◌+◌, ◌-◌, ◌<◌, ◌≤◌, List, [], ◌∷◌, arith, ap, ◌∙◌, map}
use Rattle.std.specs.List.{All, Contains, flat_map, range_with_len}
use Rattle.std.proofs.Math.ListN.{get_or-map}
use Rattle.std.proofs.lemmas.List.{length-map}
use Rattle.std.proofs.lemmas.List.Elements.{All-nil, All-append, All-head, All-tail, All-from_get_or, Contains-append_left, Contains-append_right}
use Rattle.std.proofs.lemmas.List.FromFn.{length-range_with_len, get_or-range_with_len}

-- what holds of each number of a range
pub All-range : (P : ℕ → Type 0) (a n : ℕ) → ((i : ℕ) → a ≤ i → i < a + n → P i) → All P (range_with_len a n)
All-range P a n all =
    All-from_get_or P (range_with_len a n) 0 (λ i h.
    let within : i < n = omega (arith, h, length-range_with_len a n) in
    rw (get_or-range_with_len a n i 0 within) (all (a + i) (omega arith) (omega arith)))

-- what holds of each element of each of the joined lists
pub All-flat_map : {X Y : Type 0} (P : Y → Type 0) (f : X → List Y) (xs : List X) → All (λ x. All P (f x)) xs → All P (flat_map f xs)
All-flat_map P f [] all = All-nil P
All-flat_map P f (x ∷ xs) all =
    All-append P (f x) (flat_map f xs) (All-head (λ y. All P (f y)) x xs all) (All-flat_map P f xs (All-tail (λ y. All P (f y)) x xs all))

pub Contains-range : (a n i : ℕ) → a ≤ i → i < a + n → Contains (range_with_len a n) i
Contains-range a n i from to =
    let here : a + (i - a) ≡ i = omega arith in
    let within : i - a < n = omega arith in
    (i - a, omega (arith, length-range_with_len a n), get_or-range_with_len a n (i - a) i within ∙ here)

pub Contains-map : {X Y : Type 0} (f : X → Y) (xs : List X) (x : X) → Contains xs x → Contains (map f xs) (f x)
Contains-map f xs x c = (c.0, omega (arith, c.1, length-map xs f), get_or-map f xs c.0 x ∙ ap f c.2)

pub Contains-flat_map : {X Y : Type 0} (f : X → List Y) (xs : List X) (x : X) (y : Y) → Contains xs x → Contains (f x) y → Contains (flat_map f xs) y
Contains-flat_map f [] x y c in_list = absurd (omega (arith, c.1))
Contains-flat_map f (z ∷ xs) x y (zero, h, e) in_list = Contains-append_left (f z) (flat_map f xs) y (rw e in_list)
Contains-flat_map f (z ∷ xs) x y (suc k, h, e) in_list = Contains-append_right (f z) (flat_map f xs) y (Contains-flat_map f xs x y (k, omega arith, e) in_list)
