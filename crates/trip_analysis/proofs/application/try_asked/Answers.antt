use Rattle.std.proofs.Common.{◌<◌, length, arith}
use Rattle.trip_analysis.proofs.Joined.{all_on}
use Rattle.trip_analysis.proofs.application.try_asked.Goals as goal

pub find_break-requires : goal.find_break-requires
find_break-requires c = record {
  there = rw c.route.ensures (all_on (λ s. s < length c.args.network.now.segments) c.in-Some.routes c.loop-route.route (omega (arith, c.loop-route-test.true, c.len-route-end.ensures.count)) (rw c.in-Some.is at c.requires));
}
