use Rattle.office_core.proofs.Promises.{hold_what_they_say}
use Rattle.office_core.proofs.laws.offices_hold_what_they_say.Goals as goal

pub returns : goal.returns
returns c = hold_what_they_say
