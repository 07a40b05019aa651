use Rattle.std.proofs.Common.{arith}
use Rattle.trip_analysis.proofs.AskedRoutes.{sound_by, sound_there}
use Rattle.trip_analysis.proofs.application.Application.is_sound.Goals as goal

pub returns-then-is_there : goal.returns-then-is_there
returns-then-is_there c =
    let there = c.is_there.ensures.0 c.if-is_there.true in
    sound_by c.args.base.now c.args.self.now c.try_on.result c.is_ok.result there.0 there.1 c.try_on.ensures.routes (rw c.network.ensures at c.try_on.ensures.taken) (rw c.network.ensures at c.try_on.ensures.refused) c.is_ok.ensures.value

pub returns-else-is_there : goal.returns-else-is_there
returns-else-is_there c = (
  λ is. absurd (grind (arith, is, c.if-is_there.false)),
  λ sound. c.is_there.ensures.1 (sound.truck, sound_there c.args.base.now c.args.self.now sound),
)
