use Rattle.std.proofs.Common.{◌≡◌}
use Rattle.day_text.proofs.applicants.learn_seekers.Given as goal

abbrev pub invariant-trucks : goal.invariant-trucks
invariant-trucks l = l.base ≡ l.fn.base
