use Rattle.std.proofs.Common.{◌==◌, length}
use Rattle.std.specs.List.{slice_split}
use Rattle.road_graph.specs.Roads.{segment_names}
use Rattle.day_text.proofs.Each.{IsSoFar}
use Rattle.day_text.proofs.Asking.{named_segment}
use Rattle.day_text.proofs.asked.find_route.Given as goal

abbrev pub invariant-loop-part : goal.invariant-loop-part
invariant-loop-part l = IsSoFar (named_segment (segment_names l.network.segments)) (slice_split (λ b. b == 32) l.text) (length l.yielded) l.route.items
