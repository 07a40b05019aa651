use Rattle.std.proofs.Common.{◌≡◌, length}
use Rattle.road_tests.proofs.postings.stamped.Given as goal

abbrev pub invariant-stamps : goal.invariant-stamps
invariant-stamps g l = length l.made ≡ 130
