-- For a placement that stands, the moment is greatest at a load.
use Rattle.std.proofs.Common.{◌≡◌, ℕ, ◌+◌, ◌-◌, ◌*◌, ◌<◌, ◌≤◌, List, [], ◌∷◌, arith, refl, ap, sym, ◌∙◌, subst, ℤ, pos, negsuc, inl, inr, ◌⊎◌, cond, leb}
use Rattle.std.proofs.lemmas.Bool.{cases_lt}
use Rattle.std.proofs.lemmas.Bool.Decides.{nat_tests}
use Rattle.std.proofs.Math.Nat.{mul-le-mul_left, add-zero}
use Rattle.influence_line.specs.Placed.{moment_line, Load}
use Rattle.influence_line.proofs.Totals.{total}
use Rattle.influence_line.proofs.Lines.{line_left, line_right}

-- some load stands at x
abbrev pub StandsAt : ℕ → List Load → Type 0
StandsAt x [] = ⊥
StandsAt x (l ∷ rest) = (l.at ≡ pos x) ⊎ StandsAt x rest

-- no place from lo, and below hi
abbrev pub IsOutside : ℕ → ℕ → ℤ → Type 0
IsOutside lo hi (pos x) = (x < lo) ⊎ (hi ≤ x)
IsOutside lo hi (negsuc x) = Unit {0}

abbrev pub NoneIn : ℕ → ℕ → List Load → Type 0
NoneIn lo hi [] = Unit {0}
NoneIn lo hi (l ∷ rest) = IsOutside lo hi l.at × NoneIn lo hi rest

outside_less : (lo hi lo' hi' : ℕ) (x : ℤ) → lo ≤ lo' → hi' ≤ hi → IsOutside lo hi x → IsOutside lo' hi' x
outside_less lo hi lo' hi' (pos x) h k (inl o) = inl (omega arith)
outside_less lo hi lo' hi' (pos x) h k (inr o) = inr (omega arith)
outside_less lo hi lo' hi' (negsuc x) h k o = tt

none_less : (lo hi lo' hi' : ℕ) (loads : List Load) → lo ≤ lo' → hi' ≤ hi → NoneIn lo hi loads → NoneIn lo' hi' loads
none_less lo hi lo' hi' [] h k o = tt
none_less lo hi lo' hi' (l ∷ rest) h k o = (outside_less lo hi lo' hi' l.at h k o.0, none_less lo hi lo' hi' rest h k o.1)

-- the first load after r, up to n
record Right (n r : ℕ) (loads : List Load) : Type 0 where
  at : ℕ
  above : r < at
  below : at ≤ n + 1
  none : NoneIn (r + 1) at loads
  stands : (at ≡ n + 1) ⊎ StandsAt at loads

right_at : (n r : ℕ) (l : Load) (rest : List Load) (x : ℤ) → l.at ≡ x → Right n r rest → Right n r (l ∷ rest)
right_at n r l rest (negsuc x) e s = record { at = s.at; above = s.above; below = s.below; none = (subst (IsOutside (r + 1) s.at) (sym e) tt, s.none); stands = elim s.stands [ inl h ↦ inl h | inr h ↦ inr (inr h) ] }
right_at n r l rest (pos x) e s =
    elim (cases_lt r x) [
      | inl above ↦ elim (cases_lt x s.at) [
        | inl below ↦ record { at = x; above = above; below = omega (arith, s.below); none = (subst (IsOutside (r + 1) x) (sym e) (inr (omega arith)), none_less (r + 1) s.at (r + 1) x rest (omega arith) (omega arith) s.none); stands = inr (inl e) }
        | inr beyond ↦ record { at = s.at; above = s.above; below = s.below; none = (subst (IsOutside (r + 1) s.at) (sym e) (inr beyond), s.none); stands = elim s.stands [ inl h ↦ inl h | inr h ↦ inr (inr h) ] }
      ]
      | inr before ↦ record { at = s.at; above = s.above; below = s.below; none = (subst (IsOutside (r + 1) s.at) (sym e) (inl (omega arith)), s.none); stands = elim s.stands [ inl h ↦ inl h | inr h ↦ inr (inr h) ] }
    ]

right : (n r : ℕ) (loads : List Load) → r ≤ n → Right n r loads
right n r [] h = record { at = n + 1; above = omega arith; below = omega arith; none = tt; stands = inl refl }
right n r (l ∷ rest) h = right_at n r l rest l.at refl (right n r rest h)

-- the last load up to r
record Left (r : ℕ) (loads : List Load) : Type 0 where
  at : ℕ
  below : at ≤ r + 1
  none : NoneIn at (r + 1) loads
  stands : (at ≡ 0) ⊎ ((x : ℕ) × (at ≡ x + 1) × StandsAt x loads)

left_at : (r : ℕ) (l : Load) (rest : List Load) (x : ℤ) → l.at ≡ x → Left r rest → Left r (l ∷ rest)
left_at r l rest (negsuc x) e s = record { at = s.at; below = s.below; none = (subst (IsOutside s.at (r + 1)) (sym e) tt, s.none); stands = elim s.stands [ inl h ↦ inl h | inr h ↦ inr (h.0, h.1, inr h.2) ] }
left_at r l rest (pos x) e s =
    elim (cases_lt r x) [
      | inl after ↦ record { at = s.at; below = s.below; none = (subst (IsOutside s.at (r + 1)) (sym e) (inr (omega arith)), s.none); stands = elim s.stands [ inl h ↦ inl h | inr h ↦ inr (h.0, h.1, inr h.2) ] }
      | inr before ↦ elim (cases_lt x s.at) [
        | inl nearer ↦ record { at = s.at; below = s.below; none = (subst (IsOutside s.at (r + 1)) (sym e) (inl nearer), s.none); stands = elim s.stands [ inl h ↦ inl h | inr h ↦ inr (h.0, h.1, inr h.2) ] }
        | inr further ↦ record { at = x + 1; below = omega arith; none = (subst (IsOutside (x + 1) (r + 1)) (sym e) (inl (omega arith)), none_less s.at (r + 1) (x + 1) (r + 1) rest (omega arith) (omega arith) s.none); stands = inr (x, refl, inl e) }
      ]
    ]

left : (r : ℕ) (loads : List Load) → Left r loads
left r [] = record { at = 0; below = omega arith; none = tt; stands = inl refl }
left r (l ∷ rest) = left_at r l rest l.at refl (left r rest)

-- what a load at or left of the section, and one right of it, gives to the slope
abbrev left_part : ℕ → ℤ → ℕ
left_part r (pos x) = cond (leb x r) x 0
left_part r (negsuc x) = 0

abbrev right_part : ℕ → ℕ → ℤ → ℕ
right_part n r (pos x) = cond (leb x r) 0 (n - x)
right_part n r (negsuc x) = 0

left_at_most : (r x : ℕ) → x ≤ r → left_part r (pos x) ≡ x
left_at_most r x h = grind (arith, nat_tests)

left_above : (r x : ℕ) → r < x → left_part r (pos x) ≡ 0
left_above r x h = grind (arith, nat_tests)

right_at_most : (n r x : ℕ) → x ≤ r → right_part n r (pos x) ≡ 0
right_at_most n r x h = grind (arith, nat_tests)

right_above : (n r x : ℕ) → r < x → right_part n r (pos x) ≡ n - x
right_above n r x h = grind (arith, nat_tests)

pub line_beyond : (n r x : ℕ) → r ≤ n → r ≤ x → moment_line n r (pos x) ≡ r * (n - x)
line_beyond n r x h k =
    let at : r + (x - r) ≡ x = omega arith in
    let rest : (n - r) - (x - r) ≡ n - x = omega arith in
    let e = line_right n r (n - r) (x - r) (omega arith) in
    rw (at, rest) at e

-- the section moves right by t, over no load
move_right_one : (n r t u : ℕ) (x : ℤ) → r + t + u ≡ n → IsOutside (r + 1) (r + t) x → moment_line n (r + t) x + t * left_part r x ≡ moment_line n r x + t * right_part n r x
move_right_one n r t u (negsuc x) e o = refl
move_right_one n r t u (pos x) e (inl o) =
    rw (line_left n (r + t) u x (omega arith) (omega arith), left_at_most r x (omega arith), line_left n r (t + u) x (omega arith) (omega arith), right_at_most n r x (omega arith)) (omega arith)
move_right_one n r t u (pos x) e (inr o) =
    elim (cases_lt r x) [
      | inl h ↦ rw (line_beyond n (r + t) x (omega arith) (omega arith), left_above r x h, line_beyond n r x (omega arith) (omega arith), right_above n r x h) (omega arith)
      | inr h ↦ let zero : t ≡ 0 = omega arith in rw (zero, add-zero) (omega arith)
    ]

-- the section moves left by t, over no load
move_left_one : (n u t s : ℕ) (x : ℤ) → u + t + s ≡ n → IsOutside (u + 1) (u + t + 1) x → moment_line n u x + t * right_part n (u + t) x ≡ moment_line n (u + t) x + t * left_part (u + t) x
move_left_one n u t s (negsuc x) e o = refl
move_left_one n u t s (pos x) e (inl o) =
    rw (line_left n u (t + s) x (omega arith) (omega arith), right_at_most n (u + t) x (omega arith), line_left n (u + t) s x (omega arith) (omega arith), left_at_most (u + t) x (omega arith)) (omega arith)
move_left_one n u t s (pos x) e (inr o) =
    rw (line_beyond n u x (omega arith) (omega arith), right_above n (u + t) x (omega arith), line_beyond n (u + t) x (omega arith) (omega arith), left_above (u + t) x (omega arith)) (omega arith)

abbrev moment_of : ℕ → ℕ → Load → ℕ
moment_of n r l = l.weight * moment_line n r l.at

abbrev left_of : ℕ → Load → ℕ
left_of r l = l.weight * left_part r l.at

abbrev right_of : ℕ → ℕ → Load → ℕ
right_of n r l = l.weight * right_part n r l.at

move_right_all : (n r t u : ℕ) (loads : List Load) → r + t + u ≡ n → NoneIn (r + 1) (r + t) loads → total (moment_of n (r + t)) loads + t * total (left_of r) loads ≡ total (moment_of n r) loads + t * total (right_of n r) loads
move_right_all n r t u [] e o = omega arith
move_right_all n r t u (l ∷ rest) e o = omega (arith, ap (λ v. l.weight * v) (move_right_one n r t u l.at e o.0), move_right_all n r t u rest e o.1)

move_left_all : (n u t s : ℕ) (loads : List Load) → u + t + s ≡ n → NoneIn (u + 1) (u + t + 1) loads → total (moment_of n u) loads + t * total (right_of n (u + t)) loads ≡ total (moment_of n (u + t)) loads + t * total (left_of (u + t)) loads
move_left_all n u t s [] e o = omega arith
move_left_all n u t s (l ∷ rest) e o = omega (arith, ap (λ v. l.weight * v) (move_left_one n u t s l.at e o.0), move_left_all n u t s rest e o.1)

no_left_one : (r : ℕ) (x : ℤ) → IsOutside 0 (r + 1) x → left_part r x ≡ 0
no_left_one r (negsuc x) o = refl
no_left_one r (pos x) (inl o) = omega arith
no_left_one r (pos x) (inr o) = left_above r x (omega arith)

no_left : (r : ℕ) (loads : List Load) → NoneIn 0 (r + 1) loads → total (left_of r) loads ≡ 0
no_left r [] o = refl
no_left r (l ∷ rest) o = omega (arith, ap (λ v. l.weight * v) (no_left_one r l.at o.0), no_left r rest o.1)

no_right_one : (n r : ℕ) (x : ℤ) → IsOutside (r + 1) (n + 1) x → right_part n r x ≡ 0
no_right_one n r (negsuc x) o = refl
no_right_one n r (pos x) (inl o) = right_at_most n r x (omega arith)
no_right_one n r (pos x) (inr o) = elim (cases_lt r x) [ inl h ↦ right_above n r x h ∙ (let gone : n - x ≡ 0 = omega arith in gone) | inr h ↦ right_at_most n r x h ]

no_right : (n r : ℕ) (loads : List Load) → NoneIn (r + 1) (n + 1) loads → total (right_of n r) loads ≡ 0
no_right n r [] o = refl
no_right n r (l ∷ rest) o = omega (arith, ap (λ v. l.weight * v) (no_right_one n r l.at o.0), no_right n r rest o.1)

-- the moment by its two parts
parts_one : (n r s : ℕ) (x : ℤ) → r + s ≡ n → moment_line n r x ≡ s * left_part r x + r * right_part n r x
parts_one n r s (negsuc x) e = omega arith
parts_one n r s (pos x) e =
    elim (cases_lt r x) [
      | inl h ↦ rw (line_beyond n r x (omega arith) (omega arith), left_above r x h, right_above n r x h) (omega arith)
      | inr h ↦ rw (line_left n r s x e h, left_at_most r x h, right_at_most n r x h) (omega arith)
    ]

parts_all : (n r s : ℕ) (loads : List Load) → r + s ≡ n → total (moment_of n r) loads ≡ s * total (left_of r) loads + r * total (right_of n r) loads
parts_all n r s [] e = omega arith
parts_all n r s (l ∷ rest) e = omega (arith, ap (λ v. l.weight * v) (parts_one n r s l.at e), parts_all n r s rest e)

-- a load on the span under which the moment is at least as large
abbrev pub HasBetterLoad : ℕ → ℕ → List Load → Type 0
HasBetterLoad n r loads = (x : ℕ) × StandsAt x loads × (x ≤ n) × (total (λ (l : Load). l.weight * moment_line n r l.at) loads ≤ total (λ (l : Load). l.weight * moment_line n x l.at) loads)

zero_parts : (n r s : ℕ) (loads : List Load) → r + s ≡ n → total (left_of r) loads ≡ 0 → total (right_of n r) loads ≡ 0 → total (moment_of n r) loads ≡ 0
zero_parts n r s loads e a b = parts_all n r s loads e ∙ rw (a, b) (omega arith)

go_right : (n r : ℕ) (loads : List Load) → r ≤ n → total (left_of r) loads ≤ total (right_of n r) loads → (s : Right n r loads) → (total (moment_of n r) loads ≡ 0) ⊎ HasBetterLoad n r loads
go_right n r loads h k s =
    elim s.stands [
      | inl e ↦ let b = no_right n r loads (rw e at s.none) in inl (zero_parts n r (n - r) loads (omega arith) (omega arith) b)
      | inr at ↦ elim (cases_lt n s.at) [
        | inl far ↦ let b = no_right n r loads (none_less (r + 1) s.at (r + 1) (n + 1) loads (omega arith) (omega arith) s.none) in inl (zero_parts n r (n - r) loads (omega arith) (omega arith) b)
        | inr near ↦
            let t : r + (s.at - r) ≡ s.at = omega (arith, s.above) in
            let moved = rw t at (move_right_all n r (s.at - r) (n - s.at) loads (omega (arith, s.above)) (rw t s.none)) in
            inr (s.at, at, near, omega (arith, moved, mul-le-mul_left (s.at - r) k))
      ]
    ]

go_left : (n r : ℕ) (loads : List Load) → r ≤ n → total (right_of n r) loads < total (left_of r) loads → (s : Left r loads) → (total (moment_of n r) loads ≡ 0) ⊎ HasBetterLoad n r loads
go_left n r loads h k s =
    elim s.stands [
      | inl e ↦ let a = no_left r loads (rw e at s.none) in absurd (omega arith)
      | inr at ↦
          let x = at.0 in
          let near : x ≤ r = omega (arith, at.1, s.below) in
          let t : x + (r - x) ≡ r = omega arith in
          let moved = rw t at (move_left_all n x (r - x) (n - r) loads (omega arith) (rw (t, ← at.1) s.none)) in
          let more : total (right_of n r) loads ≤ total (left_of r) loads = omega arith in
          inr (x, at.2, omega arith, omega (arith, moved, mul-le-mul_left (r - x) more))
    ]

-- the moment at a section is at most that under some load on the span, or there is none
pub greatest_at_load : (n r : ℕ) (loads : List Load) → r ≤ n → (total (λ (l : Load). l.weight * moment_line n r l.at) loads ≡ 0) ⊎ HasBetterLoad n r loads
greatest_at_load n r loads h =
    elim (cases_lt (total (right_of n r) loads) (total (left_of r) loads)) [
      | inl more ↦ go_left n r loads h more (left r loads)
      | inr less ↦ go_right n r loads h less (right n r loads h)
    ]
