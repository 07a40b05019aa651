use Rattle.axle_limits.proofs.OneLimit.{group_limit_only}
use Rattle.axle_limits.proofs.laws.group_limit_is_computed.Goals as goal

pub returns : goal.returns
returns c = group_limit_only
