-- A list of which the elements before a place were gone through, one after another.
use Rattle.std.proofs.Common.{◌≡◌, ◌∙◌, sym, ap, subst, refl, ℕ, zero, suc, ◌+◌, ◌<◌, List, [], ◌∷◌, ◌++◌, length, map, take, drop, get_or, append_assoc, add-one, arith}
use Rattle.std.specs.List.{All, remove}
use Rattle.std.proofs.Math.ListN.{get_or-append, set}
use Rattle.std.proofs.Math.Seq.{drop-cons, get_or-append_seam, set-append_seam, take-suc}
use Rattle.std.proofs.lemmas.Grind.{common_steps}
use Rattle.std.proofs.lemmas.List.{drop-map, length-append, length-map, map-append, take-map}

-- the elements before the place changed, and the others as they were
abbrev pub gone : {S : Type 0} → (S → S) → ℕ → List S → List S
gone change at xs = map change (take at xs) ++ drop at xs

pub front_length : {S : Type 0} (change : S → S) (at : ℕ) (xs : List S) → at < length xs → length (map change (take at xs)) ≡ at
front_length change at xs within = length-map (take at xs) change ∙ grind (arith, common_steps)

pub gone_seam : {S : Type 0} (change : S → S) (at : ℕ) (xs : List S) (d : S) → at < length xs
    → gone change at xs ≡ map change (take at xs) ++ get_or xs at d ∷ drop (suc at) xs
gone_seam change at xs d within = ap (λ rest. map change (take at xs) ++ rest) (drop-cons xs at d within)

-- the element at the place is the one that was there
pub gone_here : {S : Type 0} (change : S → S) (at : ℕ) (xs : List S) (d : S) → at < length xs
    → get_or (gone change at xs) at d ≡ get_or xs at d
gone_here change at xs d within =
    ap (λ l. get_or l at d) (gone_seam change at xs d within)
    ∙ subst (λ n. get_or (map change (take at xs) ++ get_or xs at d ∷ drop (suc at) xs) n d ≡ get_or xs at d) (front_length change at xs within)
    (get_or-append_seam (map change (take at xs)) (get_or xs at d) (drop (suc at) xs) d)

-- another element put there
pub gone_put : {S : Type 0} (change : S → S) (at : ℕ) (xs : List S) (d y : S) → at < length xs
    → set (gone change at xs) at y ≡ map change (take at xs) ++ y ∷ drop (suc at) xs
gone_put change at xs d y within =
    ap (λ l. set l at y) (gone_seam change at xs d within)
    ∙ subst (λ n. set (map change (take at xs) ++ get_or xs at d ∷ drop (suc at) xs) n y ≡ map change (take at xs) ++ y ∷ drop (suc at) xs) (front_length change at xs within)
    (set-append_seam (map change (take at xs)) (get_or xs at d) (drop (suc at) xs) y)

-- it is changed too, and the next place is gone to
pub gone_on : {S : Type 0} (change : S → S) (at : ℕ) (xs : List S) (d : S) → at < length xs
    → set (gone change at xs) at (change (get_or xs at d)) ≡ gone change (at + 1) xs
gone_on change at xs d within =
    let more = ap (λ l. map change l) (take-suc xs at d within) ∙ map-append change (take at xs) (get_or xs at d ∷ []) in
    gone_put change at xs d (change (get_or xs at d)) within
    ∙ sym (rw add-one (ap (λ l. l ++ drop (suc at) xs) more ∙ append_assoc (map change (take at xs)) (change (get_or xs at d) ∷ []) (drop (suc at) xs)))

pub map-remove : {A B : Type 0} (f : A → B) (xs : List A) (i : ℕ) → map f (remove xs i) ≡ remove (map f xs) i
map-remove f xs i = simp (map-append, take-map, drop-map)

-- a list with another element at a place
pub set-split : {S : Type 0} (xs : List S) (i : ℕ) (y : S) → i < length xs → set xs i y ≡ take i xs ++ y ∷ drop (suc i) xs
set-split [] i y within = absurd (omega arith)
set-split (x ∷ xs) zero y within = refl
set-split (x ∷ xs) (suc i) y within = ap (λ l. x ∷ l) (set-split xs i y (omega arith))

pub All-front : {S : Type 0} (P : S → Type 0) (xs ys : List S) → All P (xs ++ ys) → All P xs
All-front P xs ys all k d within =
    subst P (get_or-append xs ys d k within) (all k d (rw (length-append xs ys) (omega arith)))
