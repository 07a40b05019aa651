use Rattle.clearance_rules.proofs.Failing as failing
use Rattle.clearance_rules.proofs.laws.named_limit_is_first.Goals as goal

pub returns : goal.returns
returns c = failing.named_limit_is_first
