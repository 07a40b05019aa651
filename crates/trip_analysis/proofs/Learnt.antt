-- Trucks that many threads had to do with, and left as they were.
use Rattle.std.proofs.Common.{◌≡◌, ◌<◌, ◌∷◌, [], ℕ, suc, List, length, get_or, refl, arith}

-- two lists of one length that agree at each place
pub same_at_each : {X : Type 0} (xs ys : List X) → length xs ≡ length ys → ((i : ℕ) (d : X) → i < length xs → get_or ys i d ≡ get_or xs i d) → ys ≡ xs
same_at_each [] [] e h = refl
same_at_each [] (y ∷ ys) e h = absurd (omega (arith, e))
same_at_each (x ∷ xs) [] e h = absurd (omega (arith, e))
same_at_each (x ∷ xs) (y ∷ ys) e h =
    let first : y ≡ x = h 0 x (omega arith) in
    let rest : ys ≡ xs = same_at_each xs ys (omega (arith, e)) (λ i d l. h (suc i) d (omega (arith, l))) in
    cc
