use Rattle.std.proofs.Common.{◌≡◌, length, take}
use Rattle.trip_analysis.specs.NodeSets.{AreMarks}
use Rattle.trip_analysis.proofs.node_set.marks_of.Given as goal

abbrev pub invariant-loop-i : goal.invariant-loop-i
invariant-loop-i l = (length l.marks ≡ 4096) × AreMarks (take l.i l.nodes) l.marks
