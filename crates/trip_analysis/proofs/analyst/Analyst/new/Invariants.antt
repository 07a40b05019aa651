use Rattle.std.proofs.Common.{◌≡◌, replicate, None}
use Rattle.trip_analysis.proofs.analyst.Analyst.new.Given as goal

abbrev pub invariant-trucks : goal.invariant-trucks
invariant-trucks l = l.known.items ≡ replicate l.counter None
