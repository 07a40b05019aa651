use Rattle.trip_analysis.proofs.Leaving.{IsLeastBelow}
use Rattle.trip_analysis.proofs.node_set.NodeSet.first_leaving.Given as goal

abbrev pub invariant-loop-node : goal.invariant-loop-node
invariant-loop-node l = IsLeastBelow l.network l.self l.node l.first
