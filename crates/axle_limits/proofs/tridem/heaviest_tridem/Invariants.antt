use Rattle.axle_limits.specs.Tridems.{IsHeaviestSoFar}
use Rattle.axle_limits.proofs.tridem.heaviest_tridem.Given as goal

abbrev pub invariant-loop-i : goal.invariant-loop-i
invariant-loop-i l = IsHeaviestSoFar l.train l.i l.best
