-- What the lane load calls twice an area is that under the influence line.
use Rattle.std.proofs.Common.{◌≡◌, ℕ, ◌+◌, ◌-◌, ◌*◌, ◌<◌, ◌≤◌, arith, ap, refl, inl, inr, pos}
use Rattle.std.proofs.lemmas.Bool.{cases_lt}
use Rattle.influence_line.specs.Placed.{moment_line}
use Rattle.influence_line.specs.declared.placing.End.TheVariants.{Left, Right}
use Rattle.influence_line.proofs.Lines.{line_left}
use Rattle.influence_line.proofs.Sections.{line_beyond}
use Rattle.influence_line.proofs.ReactionLines.{left_on, right_on}
use Rattle.design_loads.specs.Lane.{Interval, moment_area}
use Rattle.design_loads.specs.Laws.{MomentAreaIsUnderTheLine, MomentAreaIsParted, ReactionAreaIsUnderTheLine}
use Rattle.design_loads.proofs.Areas.{area_left, area_right, area_around}

-- the difference of two squares
squares_by : (a b d : ℕ) → b ≡ a + d → b * b - a * a ≡ d * (a + b)
squares_by a b d e = rw e (omega arith)

squares : (a b : ℕ) → a ≤ b → b * b - a * a ≡ (b - a) * (a + b)
squares a b h = squares_by a b (b - a) (omega arith)

from_end : (n a b : ℕ) → a ≤ b → b ≤ n → (n - a) * (n - a) - (n - b) * (n - b) ≡ (b - a) * ((n - a) + (n - b))
from_end n a b h k =
    let apart : (n - a) - (n - b) ≡ b - a = omega arith in
    let less : n - b ≤ n - a = omega arith in
    rw (squares (n - b) (n - a) less, apart) (omega arith)

abbrev between : ℕ → ℕ → Interval
between a b = record { from = a; to = b }

on_left : (n r a b : ℕ) → r ≤ n → a ≤ b → b ≤ r
    → moment_area n r (between a b) ≡ (b - a) * (moment_line n r (pos a) + moment_line n r (pos b))
on_left n r a b within h k =
    let at_a = line_left n r (n - r) a (omega arith) (omega arith) in
    let at_b = line_left n r (n - r) b (omega arith) k in
    rw (area_left n r (between a b) k, squares a b h, at_a, at_b) (omega arith)

on_right : (n r a b : ℕ) → r ≤ n → a ≤ b → b ≤ n → r < b → r ≤ a
    → moment_area n r (between a b) ≡ (b - a) * (moment_line n r (pos a) + moment_line n r (pos b))
on_right n r a b within h short over k =
    let at_a = line_beyond n r a within k in
    let at_b = line_beyond n r b within (omega arith) in
    rw (area_right n r (between a b) over k, from_end n a b h short, at_a, at_b) (omega arith)

pub moment_area_is : MomentAreaIsUnderTheLine
moment_area_is n r a b within h short (inl left) = on_left n r a b within h left
moment_area_is n r a b within h short (inr right) =
    elim (cases_lt r b) [ inl over ↦ on_right n r a b within h short over right | inr left ↦ on_left n r a b within h left ]

nothing : (s r : ℕ) → s * (r * r - r * r) ≡ 0
nothing s r = let none : r * r - r * r ≡ 0 = omega arith in omega (arith, ap (λ t. s * t) none)

at_end : (n r a b : ℕ) → a ≤ r → b ≡ r
    → moment_area n r (between a b) ≡ moment_area n r (between a r) + moment_area n r (between r b)
at_end n r a b h e =
    rw e (omega (arith, area_left n r (between r r) (omega arith), nothing (n - r) r))

at_start : (n r a b : ℕ) → a ≡ r → r < b
    → moment_area n r (between a b) ≡ moment_area n r (between a r) + moment_area n r (between r b)
at_start n r a b e k =
    rw e (omega (arith, area_left n r (between r r) (omega arith), nothing (n - r) r))

inside : (n r a b : ℕ) → a < r → r < b
    → moment_area n r (between a b) ≡ moment_area n r (between a r) + moment_area n r (between r b)
inside n r a b h k =
    let left = area_left n r (between a r) (omega arith) in
    let right = area_right n r (between r b) k (omega arith) in
    rw (area_around n r (between a b) k h, left, right) refl

pub moment_area_is_parted : MomentAreaIsParted
moment_area_is_parted n r a b h k short =
    elim (cases_lt r b) [
      | inr end ↦ at_end n r a b h (omega arith)
      | inl over ↦ elim (cases_lt a r) [ inl under ↦ inside n r a b under over | inr start ↦ at_start n r a b (omega arith) over ]
    ]

pub reaction_area_is : ReactionAreaIsUnderTheLine
reaction_area_is n Left a b h short = rw (left_on n a, left_on n b) (from_end n a b h short)
reaction_area_is n Right a b h short = rw (right_on n a (omega arith), right_on n b short) (squares a b h)
