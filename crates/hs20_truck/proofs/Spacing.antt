-- The smallest second spacing is worst for the moment: the two front axles move right towards the section, or the rear one left, until the spacing is smallest.
use Rattle.std.proofs.Common.{◌≡◌, ℕ, ◌+◌, ◌-◌, ◌*◌, ◌≤◌, arith, refl, ap, ◌∙◌, ℤ, pos, negsuc, ◌+ℤ◌, ◌≤ℤ◌, inl, inr, ◌⊎◌}
use Rattle.std.proofs.Math.Nat.{mul-le-mul_right}
use Rattle.std.proofs.lemmas.Int.{ints}
use Rattle.std.proofs.lemmas.Bool.{cases_lt}
use Rattle.influence_line.specs.Placed.{moment_line, moment_sum, placed}
use Rattle.influence_line.specs.Peaks.{IsPeakMoment, IsTrainPlaced, IsHs20Placed, hs20_loads}
use Rattle.influence_line.proofs.Moves.{moment_rightward, moment_leftward}
use Rattle.hs20_truck.specs.Design.{design_axles}

-- the three lines at a lead, with a second spacing
abbrev hs20_moment : ℕ → ℕ → ℤ → ℕ → ℕ → ℕ
hs20_moment n r lead first second = 8000 * moment_line n r lead + 32000 * moment_line n r (lead +ℤ pos first) + 32000 * moment_line n r (lead +ℤ pos (first + second))

-- the middle axle is at or right of the section, or left of it by some distance
middle_at : (n r : ℕ) (x y : ℤ) → y ≡ x → (pos r ≤ℤ x) ⊎ ((m : ℕ) × (x +ℤ pos m ≡ pos r))
middle_at n r (pos x) y e = elim (cases_lt x r) [ inl h ↦ inr (r - x, omega (arith, ints)) | inr h ↦ inl (omega (arith, ints)) ]
middle_at n r (negsuc x) y e = inr (r + x + 1, omega (arith, ints))

-- where a load has moved, in three ways: not at all, right up to the section, left down to it
rightward_by : (n r : ℕ) (x : ℤ) (d : ℕ) → r ≤ n → (d ≡ 0) ⊎ ((x +ℤ pos d) ≤ℤ pos r) → moment_line n r x ≤ moment_line n r (x +ℤ pos d)
rightward_by n r x d h (inl e) = let same : x +ℤ pos d ≡ x = omega (arith, ints) in rw same (omega arith)
rightward_by n r x d h (inr near) = moment_rightward n r x (x +ℤ pos d) h (omega (arith, ints)) near

leftward_by : (n r : ℕ) (x y : ℤ) (e : ℕ) → r ≤ n → x ≡ y +ℤ pos e → (e ≡ 0) ⊎ (pos r ≤ℤ y) → moment_line n r x ≤ moment_line n r y
leftward_by n r x y e h s (inl z) = let same : x ≡ y = omega (arith, ints, s) in rw same (omega arith)
leftward_by n r x y e h s (inr near) = moment_leftward n r x y h (omega (arith, ints, s)) near

-- move the front two right by d, and the rear one left by e
closer : (n r : ℕ) (lead : ℤ) (first second d e : ℕ) → r ≤ n → second ≡ first + (d + e) → ((d ≡ 0) ⊎ ((lead +ℤ pos (first + d)) ≤ℤ pos r)) → ((e ≡ 0) ⊎ (pos r ≤ℤ (lead +ℤ pos (first + first + d)))) → hs20_moment n r lead first second ≤ hs20_moment n r (lead +ℤ pos d) first first
closer n r lead first second d e h s a b =
    let front : (d ≡ 0) ⊎ ((lead +ℤ pos d) ≤ℤ pos r) = elim a [ inl z ↦ inl z | inr k ↦ inr (omega (arith, ints, k)) ] in
    let to_middle : (lead +ℤ pos first) +ℤ pos d ≡ (lead +ℤ pos d) +ℤ pos first = omega (arith, ints) in
    let middle : (d ≡ 0) ⊎ (((lead +ℤ pos first) +ℤ pos d) ≤ℤ pos r) = elim a [ inl z ↦ inl z | inr k ↦ inr (omega (arith, ints, k)) ] in
    let rear : (e ≡ 0) ⊎ (pos r ≤ℤ ((lead +ℤ pos d) +ℤ pos (first + first))) = elim b [ inl z ↦ inl z | inr k ↦ inr (omega (arith, ints, k)) ] in
    let one = rightward_by n r lead d h front in
    let two = rw to_middle at (rightward_by n r (lead +ℤ pos first) d h middle) in
    let three = leftward_by n r (lead +ℤ pos (first + second)) ((lead +ℤ pos d) +ℤ pos (first + first)) e h (omega (arith, ints, s)) rear in
    omega (arith, one, two, three)

-- there is a lead at which the smallest spacing is no better
pub moment_closest : (n r : ℕ) (lead : ℤ) (first second : ℕ) → r ≤ n → first ≤ second → (d : ℕ) × (hs20_moment n r lead first second ≤ hs20_moment n r (lead +ℤ pos d) first first)
moment_closest n r lead first second h k =
    elim (middle_at n r (lead +ℤ pos first) (lead +ℤ pos first) refl) [
      | inl left ↦ (0, closer n r lead first second 0 (second - first) h (omega arith) (inl refl) (inr (omega (arith, ints, left))))
      | inr m ↦ elim (cases_lt (second - first) m.0) [
        | inl all ↦ (second - first, closer n r lead first second (second - first) 0 h (omega arith) (inr (omega (arith, ints, m.1, all))) (inl refl))
        | inr part ↦ (m.0, closer n r lead first second m.0 (second - first - m.0) h (omega arith) (inr (omega (arith, ints, m.1))) (inr (omega (arith, ints, m.1))))
      ]
    ]

pub placed_is : (q : ℕ) (lead : ℤ) → placed q lead design_axles ≡ hs20_loads q lead (168 * q)
placed_is q lead =
    let one : lead +ℤ pos (q * 0) ≡ lead = omega (arith, ints) in
    let two : lead +ℤ pos (q * 168) ≡ lead +ℤ pos (168 * q) = omega (arith, ints) in
    let three : lead +ℤ pos (q * 336) ≡ lead +ℤ pos (168 * q + 168 * q) = omega (arith, ints) in
    rw (one, two, three) refl

hs20_sum : (q n r : ℕ) (lead : ℤ) (second : ℕ) → moment_sum n r (hs20_loads q lead second) ≡ hs20_moment n r lead (168 * q) second
hs20_sum q n r lead second = omega arith

-- the peaks of the truck with the smallest spacing are those of all spacings
pub moment_of_all : (span num den : ℕ) → IsPeakMoment (IsTrainPlaced design_axles) span num den → IsPeakMoment IsHs20Placed span num den
moment_of_all span num den h =
    let r = h.reached in
    let lead = r.5.0 in
    record {
      some = h.some;
      reached = (r.0, r.1, r.2, r.3, r.4, (lead, 168 * r.0, omega arith, omega arith, r.5.1 ∙ placed_is r.0 lead), r.6);
      greatest = λ q section loads a b is_placed.
          let second = is_placed.1 in
          let closest = moment_closest (q * span) section is_placed.0 (168 * q) second b is_placed.2 in
          let nearer = is_placed.0 +ℤ pos closest.0 in
          let bound = h.greatest q section (placed q nearer design_axles) a b (nearer, refl) in
          let same = ap (moment_sum (q * span) section) (placed_is q nearer) in
          rw is_placed.4 (omega (arith, mul-le-mul_right den closest.1, bound, ap (λ t. t * den) same));
    }
