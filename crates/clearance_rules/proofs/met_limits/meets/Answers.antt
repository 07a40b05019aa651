-- No limit fails exactly where the segment meets the load.
use Rattle.clearance_rules.proofs.Meeting.{met_means}
use Rattle.clearance_rules.proofs.met_limits.meets.Goals as goal

pub returns-clause-meets : goal.returns-clause-meets
returns-clause-meets g c =
    met_means c.args.network.now c.args.state.now c.args.load.now c.args.segment c.is_met.result c.bounds.ensures.roads c.bounds.ensures.train c.is_met.ensures
