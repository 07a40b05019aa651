-- A load that moves towards the section, and not past it, never lowers the moment.
use Rattle.std.proofs.Common.{◌≡◌, ℕ, ◌+◌, ◌-◌, ◌*◌, ◌≤◌, List, ◌∷◌, ◌++◌, arith, ℤ, pos, negsuc, ◌≤ℤ◌, inl, inr}
use Rattle.std.proofs.Math.Nat.{mul-le-mul_left, mul-le-mul_right}
use Rattle.std.proofs.lemmas.Int.{ints}
use Rattle.influence_line.specs.Placed.{moment_line, moment_sum, Load}
use Rattle.influence_line.specs.Laws.{IsTowards}
use Rattle.influence_line.proofs.Totals.{total, total_is, total-append}
use Rattle.influence_line.proofs.Lines.{line_left}
use Rattle.influence_line.proofs.Sections.{line_beyond}

-- rightward, from on or off the span
pub moment_rightward : (n r : ℕ) (x y : ℤ) → r ≤ n → x ≤ℤ y → y ≤ℤ pos r → moment_line n r x ≤ moment_line n r y
moment_rightward n r (negsuc x) y within right near = omega arith
moment_rightward n r (pos x) (negsuc y) within right near = absurd (omega (arith, ints, right))
moment_rightward n r (pos x) (pos y) within right near =
    let below : x ≤ y = omega (arith, ints, right) in
    rw (line_left n r (n - r) x (omega arith) (omega (arith, ints, near)), line_left n r (n - r) y (omega arith) (omega (arith, ints, near))) (mul-le-mul_right (n - r) below)

-- and leftward
pub moment_leftward : (n r : ℕ) (x y : ℤ) → r ≤ n → y ≤ℤ x → pos r ≤ℤ y → moment_line n r x ≤ moment_line n r y
moment_leftward n r x (negsuc y) within left near = absurd (omega (arith, ints, near))
moment_leftward n r (negsuc x) (pos y) within left near = omega arith
moment_leftward n r (pos x) (pos y) within left near =
    let below : n - x ≤ n - y = omega (arith, ints, left) in
    rw (line_beyond n r x within (omega (arith, ints, left, near)), line_beyond n r y within (omega (arith, ints, near))) (mul-le-mul_left r below)

pub moment_towards : (n r : ℕ) (x y : ℤ) → r ≤ n → IsTowards x y (pos r) → moment_line n r x ≤ moment_line n r y
moment_towards n r x y within (inl right) = moment_rightward n r x y within right.0 right.1
moment_towards n r x y within (inr left) = moment_leftward n r x y within left.1 left.0

abbrev moment_of : ℕ → ℕ → Load → ℕ
moment_of n r l = l.weight * moment_line n r l.at

-- the moment with one load named
moment_with : (n r : ℕ) (l : Load) (before after : List Load) → moment_sum n r (before ++ l ∷ after) ≡ total (moment_of n r) before + (l.weight * moment_line n r l.at + total (moment_of n r) after)
moment_with n r l before after = rw (← total_is (moment_of n r) (before ++ l ∷ after)) (total-append (moment_of n r) before (l ∷ after))

pub nearer_no_less : (n r weight : ℕ) (x y : ℤ) (before after : List Load) → r ≤ n → IsTowards x y (pos r) →
    moment_sum n r (before ++ record { at = x; weight = weight } ∷ after) ≤ moment_sum n r (before ++ record { at = y; weight = weight } ∷ after)
nearer_no_less n r weight x y before after within towards =
    rw (moment_with n r (record { at = x; weight = weight }) before after, moment_with n r (record { at = y; weight = weight }) before after)
    (omega (arith, mul-le-mul_left weight (moment_towards n r x y within towards)))
