use Rattle.std.proofs.Common.{◌≡◌, ◌<◌, ℕ, get_or}
use Rattle.restriction_log.specs.States.{rating_at}
use Rattle.trip_analysis.proofs.analyst.differs.Given as goal

abbrev pub invariant-spans : goal.invariant-spans
invariant-spans l = (k : ℕ) → k < l.span-index → rating_at l.new.ratings (get_or l.span-items k 0) ≡ rating_at l.old.ratings (get_or l.span-items k 0)
