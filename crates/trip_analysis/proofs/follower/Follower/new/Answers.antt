use Rattle.trip_analysis.proofs.follower.Follower.new.Goals as goal

pub invariant_of-result : goal.invariant_of-result
invariant_of-result c = rw c.of.ensures c.in_ok-new.ensures
