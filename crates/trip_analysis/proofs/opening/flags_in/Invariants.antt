use Rattle.std.specs.Prelude.{⊤}
use Rattle.trip_analysis.proofs.opening.flags_in.Given as goal

abbrev pub invariant-loop-i : goal.invariant-loop-i
invariant-loop-i l = ⊤
