use Rattle.std.proofs.Common.{◌≡◌, ◌==◌, [], length}
use Rattle.std.specs.Prelude.{unwrap_or}
use Rattle.std.specs.List.{slice_split}
use Rattle.road_graph.specs.Roads.{segment_names}
use Rattle.day_text.proofs.Each.{IsSoFar}
use Rattle.day_text.proofs.Asking.{named}
use Rattle.day_text.proofs.asked.find_routes.Given as goal

abbrev pub invariant-loop-part : goal.invariant-loop-part
invariant-loop-part l = record {
  numbers : IsSoFar (named (segment_names l.network.segments)) (slice_split (λ b. b == 124) l.text) (length l.yielded) (unwrap_or l.found []);
  many : length (unwrap_or l.found []) ≡ length l.yielded;
}
