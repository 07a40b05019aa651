use Rattle.std.proofs.Common.{◌≡◌, drop}
use Rattle.trip_analysis.specs.Applications.{first_break}
use Rattle.trip_analysis.proofs.application.try_asked.Given as goal

abbrev pub invariant-loop-route : goal.invariant-loop-route
invariant-loop-route l =
    first_break l.network.segments l.route l.from l.to (drop l.route l.routes) ≡ first_break l.network.segments 0 l.from l.to l.routes
