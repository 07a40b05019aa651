use Rattle.std.proofs.Common.{◌+◌, ◌-◌, ◌≤◌}
use Rattle.route_search.proofs.width.shift.Given as goal

abbrev pub invariant-nodes : goal.invariant-nodes
invariant-nodes l = l.node ≤ l.nodes + l.step

abbrev pub decreases-nodes : goal.decreases-nodes
decreases-nodes l = l.nodes - l.node
