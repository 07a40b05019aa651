use Rattle.std.proofs.Common.{◌≡◌}
use Rattle.road_tests.proofs.snapshots.post_each.Given as goal

abbrev pub invariant-postings : goal.invariant-postings
invariant-postings g l = l.network ≡ l.store.roads
