-- The quotient by which the formula's limit is computed is the nearest whole number, and the only one.
use Rattle.std.proofs.Common.{◌≡◌, ℕ, ◌+◌, ◌-◌, ◌*◌, ◌<◌, ◌≤◌, arith, refl}
use Rattle.std.proofs.Math.Nat.{div-eq_of_lt-le}
use Rattle.bridge_formula.specs.Formula.{IsNearest, IsFormulaLimit, nearest, formula_limit, FormulaIsComputed}

-- the division finds a nearest whole number
pub is_nearest : (over base : ℕ) → 0 < base → IsNearest over base (nearest over base)
is_nearest over base some = record {
  from_below = grind arith;
  from_above = grind arith;
}

-- the computed limit meets the inequality
pub formula_limit_is : (spread axles : ℕ) → 2 ≤ axles → IsFormulaLimit spread axles (formula_limit spread axles)
formula_limit_is spread axles several =
    (nearest (spread * axles) (12 * (axles - 1)), is_nearest (spread * axles) (12 * (axles - 1)) (omega arith), refl)

-- a nearest whole number is the one that the division finds
pub nearest_is : (over base k : ℕ) → 0 < base → IsNearest over base k → nearest over base ≡ k
nearest_is over base k some h =
    div-eq_of_lt-le {k = k} (2 * base) {m = 2 * over + base - 1} (omega (arith, h.from_above)) (omega (arith, h.from_below, some))

-- no other limit meets the inequality
pub formula_limit_only : FormulaIsComputed
formula_limit_only spread axles limit several h =
    rw (nearest_is (spread * axles) (12 * (axles - 1)) h.0 (omega arith) h.1) h.2
