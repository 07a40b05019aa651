use Rattle.trip_analysis.proofs.Unbroken.{sound_if}
use Rattle.trip_analysis.proofs.application.Application.checked_on.Goals as goal

pub returns-clause-sound : goal.returns-clause-sound
returns-clause-sound c = sound_if c.args.network.now c.args.self c.requires.there c.in_ok-try_on.ensures.routes c.in_ok-try_on.ensures.taken
