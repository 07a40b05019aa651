use Rattle.std.proofs.Common.{◌≡◌}
use Rattle.trip_analysis.specs.Findings.{leaving, leaving_from}
use Rattle.trip_analysis.proofs.node_set.NodeSet.first_by_number.Given as goal

abbrev pub invariant-loop-segment : goal.invariant-loop-segment
invariant-loop-segment l = leaving_from l.network l.self l.segment ≡ leaving l.network l.self
