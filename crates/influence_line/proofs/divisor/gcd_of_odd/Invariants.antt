use Rattle.std.proofs.Common.{◌≡◌, ◌%◌, ◌+◌, ℕ}
use Rattle.std.specs.Int.{IsGcd}
use Rattle.influence_line.proofs.divisor.gcd_of_odd.Given as goal

abbrev pub invariant-loop-x : goal.invariant-loop-x
invariant-loop-x l = record {
  odd : l.x % 2 ≡ 1;
  other_odd : l.y % 2 ≡ 1;
  same : (g : ℕ) → IsGcd l.x l.y g → IsGcd l.a l.b g;
}

abbrev pub decreases-loop-x : goal.decreases-loop-x
decreases-loop-x l = l.x + l.y
