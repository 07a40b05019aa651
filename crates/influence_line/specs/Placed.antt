-- Loads on a simple span, and what they do to it (influence lines of a simple span, Hibbeler's Structural Analysis).
-- Positions are whole numbers of units of 1/q inch from the left support, for a scale q; n is the span in these units.
use Rattle.std.specs.Prelude.{ℕ, ◌-◌, ◌*◌, List, sum_by, map, ℤ, pos, negsuc, ◌+ℤ◌, if◌then◌else◌, nat_le, min, max}
use Rattle.axle_train.specs.declared.axle.Axle.{Axle}

-- a load: where it stands, and its pounds
pub record Load : Type 0 where
  pub at : ℤ
  pub weight : ℕ

-- the influence line of the moment at section r: a load of one pound on the span at x gives min x r * (n - max x r), in units of n; off the span it gives nothing
abbrev pub moment_line : ℕ → ℕ → ℤ → ℕ
moment_line n r (pos x) = if nat_le x n then min x r * (n - max x r) else 0
moment_line n r (negsuc x) = 0

-- the influence line of the left reaction: n - x for a load on the span, and nothing off it
abbrev pub left_line : ℕ → ℤ → ℕ
left_line n (pos x) = if nat_le x n then n - x else 0
left_line n (negsuc x) = 0

-- the influence line of the right reaction: x for a load on the span, and nothing off it
abbrev pub right_line : ℕ → ℤ → ℕ
right_line n (pos x) = if nat_le x n then x else 0
right_line n (negsuc x) = 0

-- the sum over the loads at section r. The moment there is this over q * q * span, in pounds times inches
abbrev pub moment_sum : ℕ → ℕ → List Load → ℕ
moment_sum n r loads = sum_by (λ l. l.weight * moment_line n r l.at) loads

-- a train whose first axle stands at `lead`: each axle stands q times its place, in inches, further right
abbrev pub placed : ℕ → ℤ → List Axle → List Load
placed q lead axles = map (λ a. record { at = lead +ℤ pos (q * a.place); weight = a.weight }) axles
