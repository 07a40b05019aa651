use Rattle.std.proofs.Common.{◌≡◌, length}
use Rattle.day_text.proofs.applicants.applicants.Given as goal

abbrev pub invariant-orders : goal.invariant-orders
invariant-orders l = length l.chosen.items ≡ length l.base.fleet
