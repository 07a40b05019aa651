use Rattle.route_search.specs.Heights.{AreHeights}
use Rattle.route_search.proofs.heights.Heights.all.Given as goal

abbrev pub invariant-columns : goal.invariant-columns
invariant-columns l = AreHeights l.network.segments l.heights
