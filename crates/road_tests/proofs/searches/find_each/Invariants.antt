use Rattle.route_search.specs.Heights.{AreHeights}
use Rattle.road_tests.proofs.searches.find_each.Given as goal

abbrev pub invariant-rows : goal.invariant-rows
invariant-rows g l = AreHeights l.network.segments l.heights
