-- The influence lines of the reactions, on the span and off it, and a load that moves towards a support.
use Rattle.std.proofs.Common.{◌≡◌, ℕ, ◌-◌, ◌≤◌, ◌<◌, arith, refl, ℤ, pos, negsuc, ◌≤ℤ◌, ◌<ℤ◌, inl, inr, ◌⊎◌}
use Rattle.std.proofs.lemmas.Int.{ints}
use Rattle.std.proofs.lemmas.Bool.{cases_lt}
use Rattle.std.proofs.lemmas.Bool.Decides.{nat_tests}
use Rattle.influence_line.specs.Placed.{left_line, right_line}

pub left_on : (n x : ℕ) → left_line n (pos x) ≡ n - x
left_on n x = elim (cases_lt n x) [ inl h ↦ (let e : n - x ≡ 0 = omega arith in rw e (grind (arith, nat_tests))) | inr h ↦ grind (arith, nat_tests) ]

pub left_before : (n : ℕ) (x : ℤ) → x <ℤ pos 0 → left_line n x ≡ 0
left_before n (pos x) off = absurd (omega (arith, ints, off))
left_before n (negsuc x) off = refl

pub right_on : (n x : ℕ) → x ≤ n → right_line n (pos x) ≡ x
right_on n x on = grind (arith, nat_tests)

pub right_off : (n x : ℕ) → n < x → right_line n (pos x) ≡ 0
right_off n x off = grind (arith, nat_tests)

pub right_le : (n x : ℕ) → right_line n (pos x) ≤ x
right_le n x = elim (cases_lt n x) [ inl h ↦ rw (right_off n x h) (omega arith) | inr h ↦ rw (right_on n x h) (omega arith) ]

pub right_past : (n : ℕ) (x : ℤ) → pos n <ℤ x → right_line n x ≡ 0
right_past n (pos x) off = right_off n x (omega (arith, ints, off))
right_past n (negsuc x) off = refl

-- a place is left of m, or not
pub either_side : (z : ℤ) (m : ℕ) → (z <ℤ pos m) ⊎ (pos m ≤ℤ z)
either_side (pos x) m = elim (cases_lt x m) [ inl h ↦ inl (omega (arith, ints)) | inr h ↦ inr (omega (arith, ints)) ]
either_side (negsuc x) m = inl (omega (arith, ints))

-- a load that moves left, and not past the left support, never lowers the left reaction
pub left_nearer : (n : ℕ) (x y : ℤ) → pos 0 ≤ℤ y → y ≤ℤ x → left_line n x ≤ left_line n y
left_nearer n (pos x) (pos y) on left = rw (left_on n x, left_on n y) (omega (arith, ints, left))
left_nearer n (pos x) (negsuc y) on left = absurd (omega (arith, ints, on))
left_nearer n (negsuc x) y on left = omega arith

-- one that moves right, and not past the right support, never lowers the right reaction
pub right_nearer : (n : ℕ) (x y : ℤ) → x ≤ℤ y → y ≤ℤ pos n → right_line n x ≤ right_line n y
right_nearer n (negsuc x) y right on = omega arith
right_nearer n (pos x) (negsuc y) right on = absurd (omega (arith, ints, right))
right_nearer n (pos x) (pos y) right on = rw (right_on n y (omega (arith, ints, on))) (omega (arith, ints, right, right_le n x))
