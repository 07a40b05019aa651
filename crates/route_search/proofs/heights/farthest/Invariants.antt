use Rattle.std.proofs.Common.{◌<◌, length}
use Rattle.route_search.proofs.heights.farthest.Given as goal

abbrev pub invariant-loop-i : goal.invariant-loop-i
invariant-loop-i l = l.node < length l.rows
