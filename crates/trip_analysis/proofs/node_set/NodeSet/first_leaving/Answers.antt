use Rattle.std.proofs.Common.{arith}
use Rattle.trip_analysis.proofs.Leaving.{first_of_all, none_at_all}
use Rattle.trip_analysis.proofs.node_set.NodeSet.first_leaving.Goals as goal

pub returns-then-first-count : goal.returns-then-first-count
returns-then-first-count c =
    first_of_all c.args.network.now c.args.self.now _ _ (omega (arith, c.loop-node-test.false, c.nodes-node-end.ensures.count)) c.segments-count.ensures.roads c.loop-node.invariant
    (omega (arith, c.if-first-count.true, c.segments-count.ensures.count))

pub returns-else-first-count : goal.returns-else-first-count
returns-else-first-count c =
    none_at_all c.args.network.now c.args.self.now _ _ (omega (arith, c.loop-node-test.false, c.nodes-node-end.ensures.count)) c.segments-count.ensures.roads c.loop-node.invariant
    (omega (arith, c.if-first-count.false, c.segments-count.ensures.count))
