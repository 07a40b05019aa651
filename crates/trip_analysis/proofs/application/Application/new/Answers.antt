use Rattle.std.proofs.Common.{sym}
use Rattle.trip_analysis.proofs.Unbroken.{sound_on}
use Rattle.trip_analysis.proofs.application.Application.new.Goals as goal

pub returns-clause-sound : goal.returns-clause-sound
returns-clause-sound c =
    sound_on c.args.base.now c.network.result.now c.args.truck c.checked_on.result (sym c.network.ensures) c.requires.truck (rw c.of_fields-application.ensures at c.checked_on.ensures.sound)
