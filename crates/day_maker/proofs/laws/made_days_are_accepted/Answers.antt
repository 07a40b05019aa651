use Rattle.day_maker.proofs.Accepted.{made_is_accepted}
use Rattle.day_maker.proofs.laws.made_days_are_accepted.Goals as goal

pub returns : goal.returns
returns c = made_is_accepted
