use Rattle.std.proofs.Common.{◌≡◌, ◌<◌, [], ℕ, get_or}
use Rattle.journal_audit.proofs.sameness.are_same_routes.Given as goal

abbrev pub invariant-routes : goal.invariant-routes
invariant-routes l = (k : ℕ) → k < l.i → get_or l.one k [] ≡ get_or l.other k []
