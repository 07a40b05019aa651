-- Sums over potentials, when one is written.
use Rattle.std.proofs.Common.{◌≡◌, ◌+◌, ◌<◌, ◌≤◌, ◌∷◌, [], ℕ, suc, zero, List, Option, Some, None, length, set, get_or, arith}
use Rattle.route_search.specs.Settling.{all_weight, known, one_if_known, weight_of}

pub all_weight-set : (ps : List (Option ℕ)) (u : ℕ) (p : Option ℕ) → u < length ps → all_weight (set ps u p) + weight_of (get_or ps u None) ≡ all_weight ps + weight_of p
all_weight-set [] u p h = absurd (omega (arith, h))
all_weight-set (q ∷ ps) zero p h = omega arith
all_weight-set (q ∷ ps) (suc u) p h = let e = all_weight-set ps u p (omega (arith, h)) in omega (arith, e)

pub known-set : (ps : List (Option ℕ)) (u : ℕ) (p : Option ℕ) → u < length ps → known (set ps u p) + one_if_known (get_or ps u None) ≡ known ps + one_if_known p
known-set [] u p h = absurd (omega (arith, h))
known-set (q ∷ ps) zero p h = omega arith
known-set (q ∷ ps) (suc u) p h = let e = known-set ps u p (omega (arith, h)) in omega (arith, e)

pub known-least : (ps : List (Option ℕ)) → known ps ≤ length ps
known-least [] = omega arith
known-least (None ∷ ps) = let e = known-least ps in omega (arith, e)
known-least (Some d ∷ ps) = let e = known-least ps in omega (arith, e)
