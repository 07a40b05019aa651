use Rattle.reroute_desk.proofs.Keeping.{other_keeps}
use Rattle.reroute_desk.proofs.laws.calls_of_others_keep_up.Goals as goal

pub returns : goal.returns
returns c = other_keeps
