-- Lists by their places.
use Rattle.std.proofs.Common.{◌≡◌, ◌<◌, ◌≤◌, ℕ, zero, suc, List, [], ◌∷◌, length, get_or, take, Some, Option, None, sym, refl, ap, arith}

-- an item of a list that has one
pub item : {A : Type 0} (l : List A) (i : ℕ) → i < length l → A
item [] i h = absurd (omega arith)
item (x ∷ xs) i h = x

abbrev item_or : {A : Type 0} → A → Option A → A
item_or d None = d
item_or d (Some x) = x

pub some_item : {A : Type 0} (a b : A) → Some a ≡ Some b → a ≡ b
some_item a b e = ap (item_or a) e

-- the front of a front
pub taken_again : {A : Type 0} (m n : ℕ) (l : List A) → m ≤ n → take m (take n l) ≡ take m l
taken_again zero n l h = refl
taken_again (suc m) zero l h = absurd (omega arith)
taken_again (suc m) (suc n) [] h = refl
taken_again (suc m) (suc n) (x ∷ l) h = ap (λ k. x ∷ k) (taken_again m n l (omega arith))

-- an item is what stands at its place
pub here_is : {A : Type 0} (l : List A) (i m : ℕ) (w x : A) → i ≡ m → m < length l → x ≡ get_or l m x → get_or l i w ≡ x
here_is [] i m w x e h is = absurd (omega arith)
here_is (y ∷ l) zero zero w x e h is = sym is
here_is (y ∷ l) zero (suc m) w x e h is = absurd (omega arith)
here_is (y ∷ l) (suc i) zero w x e h is = absurd (omega arith)
here_is (y ∷ l) (suc i) (suc m) w x e h is = here_is l i m w x (omega arith) (omega arith) is
