use Rattle.clearance_rules.proofs.Agreeing.{limits_agree}
use Rattle.clearance_rules.proofs.laws.limits_are_of_their_segment.Goals as goal

pub returns : goal.returns
returns c = limits_agree
