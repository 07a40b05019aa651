use Rattle.std.proofs.Common.{◌≡◌, drop}
use Rattle.trip_analysis.specs.Applications.{break_from}
use Rattle.trip_analysis.proofs.application.find_break.Given as goal

abbrev pub invariant-loop-i : goal.invariant-loop-i
invariant-loop-i l = break_from l.network.segments l.i l.node l.to (drop l.i l.route) ≡ break_from l.network.segments 0 l.fn.from l.to l.route
