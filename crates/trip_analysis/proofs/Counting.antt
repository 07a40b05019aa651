-- Counts of tests that add up.
use Rattle.std.proofs.Common.{ℕ, ◌+◌, ◌*◌, ◌≤◌, arith}
use Rattle.std.proofs.Math.Nat.{mul-le-mul_left}
use Rattle.trip_analysis.specs.Passing.{TestsAtMost}

-- what was tested at most k times for each of some is tested so for each of more
pub tests_of_more : (k from n before now : ℕ) → from ≤ n → TestsAtMost (k * from) before now → TestsAtMost (k * n) before now
tests_of_more k from n before now less tests = record {
  no_fewer = tests.no_fewer;
  no_more = omega (arith, tests.no_more, mul-le-mul_left k less);
}

-- and k times more for the next one
pub tests_of_next : (k from n before between now : ℕ) → from ≤ n
    → TestsAtMost (k * from) before between → TestsAtMost k between now → TestsAtMost (k * (n + 1)) before now
tests_of_next k from n before between now less tests next = record {
  no_fewer = omega (arith, tests.no_fewer, next.no_fewer);
  no_more = omega (arith, tests.no_more, next.no_more, mul-le-mul_left k less);
}
