-- What holds of the elements of each key holds of all.
use Rattle.std.proofs.Common.{◌≡◌, ◌<◌, ℕ, Bool, true, false, List, [], ◌∷◌, All, cond, eqb, eq-eqb, refl, ap, subst}
use Rattle.std.proofs.lemmas.List.Elements.{All-cons, All-head, All-nil, All-tail}
use Rattle.day_text.proofs.Counts.{having}

pub all_by : {A : Type 0} (key : A → ℕ) (P : A → Type 0) (n : ℕ) (xs : List A) → All (λ x. key x < n) xs → ((i : ℕ) → i < n → All P (having key i xs)) → All P xs
all_by key P n [] low each = All-nil P
all_by {A} key P n (x ∷ xs) low each =
    let first = All-head (λ y. key y < n) x xs low in
    let mine : having key (key x) (x ∷ xs) ≡ x ∷ having key (key x) xs =
    ap (λ b. cond b (x ∷ having key (key x) xs) (having key (key x) xs)) (eq-eqb (key x) (key x) refl) in
    All-cons P x xs (All-head P x (having key (key x) xs) (subst (All P) mine (each (key x) first)))
    (all_by key P n xs (All-tail (λ y. key y < n) x xs low) (λ i near. behind (eqb (key x) i) (having key i xs) (each i near)))
  where
    behind : (b : Bool) (ys : List A) → All P (cond b (x ∷ ys) ys) → All P ys
    behind true ys all = All-tail P x ys all
    behind false ys all = all
