use Rattle.trip_analysis.proofs.Flagged.{flags_many}
use Rattle.trip_analysis.proofs.analysis.find.Goals as goal

pub invariant_of-roads-clause-flags_are_as_many : goal.invariant_of-roads-clause-flags_are_as_many
invariant_of-roads-clause-flags_are_as_many g c =
    rw (c.as_slice-flags.ensures.value, c.network-network.ensures) (flags_many c.args.base.now c.args.state.now c.truck-truck.result c.in_ok-passable.passable.items c.in_ok-passable.ensures.flags)
