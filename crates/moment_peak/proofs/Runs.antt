-- Sums over a run of axles, and the moment under one of them.
use Rattle.std.proofs.Common.{◌≡◌, ℕ, ◌+◌, ◌-◌, ◌*◌, ◌≤◌, List, [], ◌∷◌, arith, ap, inl, inr}
use Rattle.std.proofs.Math.Nat.{mul-le-mul_left}
use Rattle.std.proofs.lemmas.Bool.{cases_lt}
use Rattle.std.specs.List.{AllByRecursion}
use Rattle.influence_line.proofs.Totals.{total, under_of}
use Rattle.axle_train.specs.declared.axle.Axle.{Axle}
use Rattle.moment_peak.proofs.Vertex.{share_below}

-- the weight of a run
abbrev pub weight_of : Axle → ℕ
weight_of a = a.weight

-- weight times place
abbrev pub moment_of : Axle → ℕ
moment_of a = a.weight * a.place

-- weight times distance of an axle that stands in front of a place, and of one behind it
abbrev pub front_of : ℕ → Axle → ℕ
front_of place a = a.weight * (place - a.place)

abbrev pub back_of : ℕ → Axle → ℕ
back_of place a = a.weight * (a.place - place)

share_of : (q r s place : ℕ) (a : Axle) → a.weight * (r * s) ≤ under_of q r s place a + q * (front_of place a * s + back_of place a * r)
share_of q r s place a = omega (arith, mul-le-mul_left a.weight (share_below r s (q * (place - a.place)) (q * (a.place - place))))

-- a run's moment is never above the true one, wherever its axles are
pub share_all : (q r s place : ℕ) (axles : List Axle) → total weight_of axles * (r * s) ≤ total (under_of q r s place) axles + q * (total (front_of place) axles * s + total (back_of place) axles * r)
share_all q r s place [] = omega arith
share_all q r s place (a ∷ rest) = omega (arith, share_of q r s place a, share_all q r s place rest)

-- an axle on the span
abbrev pub IsOn : ℕ → ℕ → ℕ → ℕ → Axle → Type 0
IsOn q r s place a = (q * (place - a.place) ≤ r) × (q * (a.place - place) ≤ s)

one_side_front : (d m : ℕ) → d ≡ 0 → d * m ≡ 0
one_side_front d m e = rw e (omega arith)

one_side_back : (d m : ℕ) → m ≡ 0 → d * m ≡ 0
one_side_back d m e = rw e (omega arith)

-- one of the two differences is 0
pub one_side : (a b : ℕ) → (a - b) * (b - a) ≡ 0
one_side a b = elim (cases_lt a b) [ inl h ↦ one_side_front (a - b) (b - a) (omega arith) | inr h ↦ one_side_back (a - b) (b - a) (omega arith) ]

exact_pair : (w q r s d e x y : ℕ) → r ≡ x + q * d → s ≡ y + q * e → d * e ≡ 0 → w * (x * y) + q * (w * d * s + w * e * r) ≡ w * (r * s)
exact_pair w q r s d e x y h k zero = rw (h, k) (omega (arith, ap (λ t. w * q * q * t) zero))

exact_of : (q r s place : ℕ) (a : Axle) → IsOn q r s place a → under_of q r s place a + q * (front_of place a * s + back_of place a * r) ≡ a.weight * (r * s)
exact_of q r s place a on =
    exact_pair a.weight q r s (place - a.place) (a.place - place) (r - q * (place - a.place)) (s - q * (a.place - place)) (omega (arith, on.0)) (omega (arith, on.1)) (one_side place a.place)

-- on the span the run's moment is the true one
pub exact_all : (q r s place : ℕ) (axles : List Axle) → AllByRecursion (IsOn q r s place) axles → total (under_of q r s place) axles + q * (total (front_of place) axles * s + total (back_of place) axles * r) ≡ total weight_of axles * (r * s)
exact_all q r s place [] on = omega arith
exact_all q r s place (a ∷ rest) on = omega (arith, exact_of q r s place a on.0, exact_all q r s place rest on.1)

balance_one : (w p y : ℕ) → w * (p - y) + w * y ≡ w * (y - p) + w * p
balance_one w p y =
    let e : (p - y) + y ≡ (y - p) + p = omega arith in omega (arith, ap (λ t. w * t) e)

-- the sums about a place, and about the first axle
pub balance : (p : ℕ) (axles : List Axle) → total (front_of p) axles + total moment_of axles ≡ total (back_of p) axles + total weight_of axles * p
balance p [] = omega arith
balance p (a ∷ rest) = omega (arith, balance_one a.weight p a.place, balance p rest)
