-- The influence line of the moment, seen from an axle that stands at the section.
use Rattle.std.proofs.Common.{◌≡◌, ℕ, ◌+◌, ◌-◌, ◌*◌, ◌≤◌, List, [], ◌∷◌, arith, refl, ap, sym, ◌∙◌, ℤ, pos, negsuc, ◌+ℤ◌, min, max, inl, inr}
use Rattle.std.proofs.lemmas.Bool.{cases_lt}
use Rattle.std.proofs.lemmas.Bool.Decides.{nat_tests}
use Rattle.std.proofs.lemmas.Int.{ints}
use Rattle.influence_line.specs.Placed.{moment_line, moment_sum, placed, Load}
use Rattle.axle_train.specs.declared.axle.Axle.{Axle}
use Rattle.influence_line.proofs.Totals.{under_of, total, total_is}

-- on the span and at or left of the section
pub line_left : (n r s x : ℕ) → r + s ≡ n → x ≤ r → moment_line n r (pos x) ≡ x * s
line_left n r s x e h =
    let lo : min x r ≡ x = omega arith in
    let hi : n - max x r ≡ s = omega arith in
    rw (lo, hi) (grind (arith, nat_tests))

-- at or right of the section, also past the right support
pub line_right : (n r s t : ℕ) → r + s ≡ n → moment_line n r (pos (r + t)) ≡ r * (s - t)
line_right n r s t e =
    let lo : min (r + t) r ≡ r = omega arith in
    let hi : n - max (r + t) r ≡ s - t = omega arith in
    rw (lo, hi) (grind (arith, nat_tests))

pub line_front : (n r s : ℕ) (x : ℤ) (t : ℕ) → r + s ≡ n → x +ℤ pos t ≡ pos r → moment_line n r x ≡ (r - t) * s
line_front n r s (pos x) t e h =
    let at : x ≡ r - t = omega (arith, ints) in
    rw (line_left n r s x e (omega arith), at) refl
line_front n r s (negsuc x) t e h =
    let gone : r - t ≡ 0 = omega (arith, ints) in
    rw gone (omega arith)

pub line_back : (n r s : ℕ) (x : ℤ) (t : ℕ) → r + s ≡ n → x ≡ pos (r + t) → moment_line n r x ≡ r * (s - t)
line_back n r s x t e h = rw h (line_right n r s t e)

-- the distances from a, where q * place is b and t is their difference
front_gap : (lead : ℤ) (a b t r : ℕ) → b ≡ a + t → lead +ℤ pos b ≡ pos r → (lead +ℤ pos a) +ℤ pos t ≡ pos r
front_gap lead a b t r e h = omega (arith, ints)

back_gap : (lead : ℤ) (a b t r : ℕ) → a ≡ b + t → lead +ℤ pos b ≡ pos r → lead +ℤ pos a ≡ pos (r + t)
back_gap lead a b t r e h = omega (arith, ints)

pub times : (q a b : ℕ) → a ≤ b → q * b ≡ q * a + q * (b - a)
times q a b h = let e : b ≡ a + (b - a) = omega arith in omega (arith, ap (λ t. q * t) e)

pub times_zero : (q d : ℕ) → d ≡ 0 → q * d ≡ 0
times_zero q d e = rw e (omega arith)

-- under the axle that stands at r, an axle gives what its line says
pub line_is_under : (q n r s place : ℕ) (lead : ℤ) (y : ℕ) → r + s ≡ n → lead +ℤ pos (q * place) ≡ pos r → moment_line n r (lead +ℤ pos (q * y)) ≡ (r - q * (place - y)) * (s - q * (y - place))
line_is_under q n r s place lead y e h =
    elim (cases_lt y place) [
      | inl k ↦
          let zero_back : q * (y - place) ≡ 0 = times_zero q (y - place) (omega arith) in
          let whole : s - q * (y - place) ≡ s = omega arith in
          rw whole (line_front n r s (lead +ℤ pos (q * y)) (q * (place - y)) e (front_gap lead (q * y) (q * place) (q * (place - y)) r (times q y place (omega arith)) h))
      | inr k ↦
          let zero_front : q * (place - y) ≡ 0 = times_zero q (place - y) (omega arith) in
          let whole : r - q * (place - y) ≡ r = omega arith in
          rw whole (line_back n r s (lead +ℤ pos (q * y)) (q * (y - place)) e (back_gap lead (q * y) (q * place) (q * (y - place)) r (times q place y (omega arith)) h))
    ]

-- the moment under an axle
total_under : (q n r s place : ℕ) (lead : ℤ) (axles : List Axle) → r + s ≡ n → lead +ℤ pos (q * place) ≡ pos r → total (λ (l : Load). l.weight * moment_line n r l.at) (placed q lead axles) ≡ total (under_of q r s place) axles
total_under q n r s place lead [] e h = refl
total_under q n r s place lead (a ∷ rest) e h =
    let one = ap (λ t. a.weight * t) (line_is_under q n r s place lead a.place e h) in
    let more = total_under q n r s place lead rest e h in
    omega (arith, one, more)

pub moment_under : (q n r s place : ℕ) (lead : ℤ) (axles : List Axle) → r + s ≡ n → lead +ℤ pos (q * place) ≡ pos r → moment_sum n r (placed q lead axles) ≡ total (under_of q r s place) axles
moment_under q n r s place lead axles e h = sym (total_is (λ (l : Load). l.weight * moment_line n r l.at) (placed q lead axles)) ∙ total_under q n r s place lead axles e h
