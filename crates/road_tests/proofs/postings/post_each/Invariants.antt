use Rattle.restriction_log.specs.Changes.{AreTaken}
use Rattle.road_tests.proofs.postings.post_each.Given as goal

abbrev pub invariant-changes : goal.invariant-changes
invariant-changes g l = AreTaken l.network l.log
