use Rattle.clearance_rules.proofs.Failing as failing
use Rattle.clearance_rules.proofs.laws.none_is_named_where_none_fails.Goals as goal

pub returns : goal.returns
returns c = failing.none_named
