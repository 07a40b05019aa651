use Rattle.std.proofs.Common.{◌≡◌, ◌<◌, ◌≤◌, Some, true, ℕ}
use Rattle.std.specs.Prelude.{slice_get}
use Rattle.road_graph.specs.declared.segment.Arrival.{Arrival}
use Rattle.trip_analysis.specs.Findings.{leaves}
use Rattle.trip_analysis.proofs.node_set.NodeSet.least_into.Given as goal

abbrev pub invariant-loop-arrival : goal.invariant-loop-arrival
invariant-loop-arrival l = (j : ℕ) (a : Arrival) → j < l.arrival-index → slice_get l.arrival-items j ≡ Some a → leaves l.network l.self a.segment ≡ true → l.most ≤ a.segment
