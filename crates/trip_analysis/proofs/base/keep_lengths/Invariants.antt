use Rattle.std.proofs.Common.{◌≡◌}
use Rattle.trip_analysis.proofs.base.keep_lengths.Given as goal

abbrev pub invariant-spans : goal.invariant-spans
invariant-spans l = l.load ≡ l.fn.load
