use Rattle.std.proofs.Common.{◌≡◌, drop}
use Rattle.restriction_log.specs.Changes.{is_touched}
use Rattle.restriction_log.proofs.log.is_touched.Given as goal

abbrev pub invariant-changes : goal.invariant-changes
invariant-changes l = is_touched l.network l.segment (drop l.change-index l.changes) ≡ is_touched l.network l.segment l.changes
