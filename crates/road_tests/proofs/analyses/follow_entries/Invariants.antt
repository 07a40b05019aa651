use Rattle.std.proofs.Common.{◌≡◌}
use Rattle.trip_analysis.specs.Followers.{GoesOn}
use Rattle.road_tests.proofs.analyses.follow_entries.Given as goal

abbrev pub invariant-entries : goal.invariant-entries
invariant-entries g l = record {
  base : l.follower.base ≡ l.base;
  roads : l.store.roads ≡ l.base.roads;
  later : GoesOn l.follower.last l.store;
}
