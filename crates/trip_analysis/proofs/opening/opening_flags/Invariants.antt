use Rattle.std.proofs.Common.{◌≡◌, map}
use Rattle.std.specs.List.{range_with_len}
use Rattle.restriction_log.specs.States.{base_of}
use Rattle.trip_analysis.specs.Passing.{is_passable}
use Rattle.trip_analysis.proofs.opening.opening_flags.Given as goal

abbrev pub invariant-loop-segment : goal.invariant-loop-segment
invariant-loop-segment l = l.flags.items ≡ map (is_passable l.base (base_of l.base.roads) l.truck) (range_with_len 0 l.segment)
