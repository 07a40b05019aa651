use Rattle.restriction_log.proofs.Standing.{base_is_of}
use Rattle.clearance_rules.proofs.met_limits.meets_at_first.Goals as goal

pub invariant_of-crossing-clause-state_is_of : goal.invariant_of-crossing-clause-state_is_of
invariant_of-crossing-clause-state_is_of g c = rw c.requires.first (base_is_of c.args.network.now c.bounds.ensures.roads)
