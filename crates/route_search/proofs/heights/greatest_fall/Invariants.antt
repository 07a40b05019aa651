use Rattle.route_search.specs.Heights.{IsLeastFall}
use Rattle.route_search.proofs.heights.greatest_fall.Given as goal

abbrev pub invariant-loop-j : goal.invariant-loop-j
invariant-loop-j l = IsLeastFall l.high l.low l.fall
