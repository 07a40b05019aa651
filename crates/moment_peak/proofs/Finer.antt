-- A placement at a finer scale.
use Rattle.std.proofs.Common.{◌≡◌, ℕ, ◌≤◌, ◌<◌, ◌*◌, ◌+◌, ◌-◌, arith, ℤ, pos, negsuc, ◌+ℤ◌, ◌*ℤ◌, ◌<ℤ◌, refl, ap, sym, ◌∙◌, List, [], ◌∷◌, inl, inr}
use Rattle.std.proofs.lemmas.Int.{ints}
use Rattle.std.proofs.Math.Nat.{mul-le-mul_left, mul-sub, mul-pos}
use Rattle.std.proofs.lemmas.Bool.{cases_lt}
use Rattle.axle_train.specs.declared.axle.Axle.{Axle}
use Rattle.influence_line.specs.Placed.{moment_line, moment_sum, placed, Load}
use Rattle.influence_line.proofs.Totals.{total, total_is}
use Rattle.influence_line.proofs.Lines.{line_left}
use Rattle.influence_line.proofs.Sections.{line_beyond}
use Rattle.moment_peak.proofs.Spans.{off_line}
use borrow.Author.Differences.{sum_is_lem}

before_line : (n r : ℕ) (x : ℤ) → x <ℤ pos 0 → moment_line n r x ≡ 0
before_line n r (pos x) h = absurd (omega (arith, ints, h))
before_line n r (negsuc x) h = refl

times_negative : (g x : ℕ) → 0 < g → (pos g *ℤ negsuc x) <ℤ pos 0
times_negative g x h = let some = mul-pos {m = g} {n = x + 1} h (omega arith) in omega (arith, ints, some)

-- at a scale g times as fine the line is g * g times as high
line_scaled : (g n r : ℕ) (x : ℤ) → 0 < g → r ≤ n → moment_line (g * n) (g * r) (pos g *ℤ x) ≡ g * g * moment_line n r x
line_scaled g n r (negsuc x) h k = rw (before_line (g * n) (g * r) (pos g *ℤ negsuc x) (times_negative g x h)) (omega arith)
line_scaled g n r (pos x) h k =
    let within = mul-le-mul_left g k in
    elim (cases_lt n x) [
      | inl off ↦
          let far : g * n < g * x = omega (arith, mul-le-mul_left g (let m : n + 1 ≤ x = omega arith in m)) in
          rw (off_line (g * n) (g * r) (g * x) far, off_line n r x off) (omega arith)
      | inr on ↦ elim (cases_lt r x) [
        | inl right ↦ rw (line_beyond (g * n) (g * r) (g * x) within (mul-le-mul_left g (let m : r ≤ x = omega arith in m)), line_beyond n r x k (omega arith), ← mul-sub g n x) (omega arith)
        | inr left ↦ rw (line_left (g * n) (g * r) (g * n - g * r) (g * x) (omega arith) (mul-le-mul_left g left), line_left n r (n - r) x (omega arith) left, ← mul-sub g n r) (omega arith)
      ]
    ]

at_scaled : (g q : ℕ) (lead : ℤ) (y : ℕ) → (pos g *ℤ lead) +ℤ pos (g * q * y) ≡ pos g *ℤ (lead +ℤ pos (q * y))
at_scaled g q lead y = omega (arith, ints, ap (λ t. g * t) (sum_is_lem lead (pos (q * y))))

total_scaled : (g q n r : ℕ) (lead : ℤ) (axles : List Axle) → 0 < g → r ≤ n → total (λ (l : Load). l.weight * moment_line (g * n) (g * r) l.at) (placed (g * q) (pos g *ℤ lead) axles) ≡ g * g * total (λ (l : Load). l.weight * moment_line n r l.at) (placed q lead axles)
total_scaled g q n r lead [] h k = omega arith
total_scaled g q n r lead (a ∷ rest) h k =
    let one = rw (← at_scaled g q lead a.place) at (line_scaled g n r (lead +ℤ pos (q * a.place)) h k) in
    omega (arith, ap (λ t. a.weight * t) one, total_scaled g q n r lead rest h k)

pub moment_scaled : (g q n r : ℕ) (lead : ℤ) (axles : List Axle) → 0 < g → r ≤ n → moment_sum (g * n) (g * r) (placed (g * q) (pos g *ℤ lead) axles) ≡ g * g * moment_sum n r (placed q lead axles)
moment_scaled g q n r lead axles h k =
    sym (total_is (λ (l : Load). l.weight * moment_line (g * n) (g * r) l.at) (placed (g * q) (pos g *ℤ lead) axles)) ∙ total_scaled g q n r lead axles h k ∙ ap (λ t. g * g * t) (total_is (λ (l : Load). l.weight * moment_line n r l.at) (placed q lead axles))
