use Rattle.std.proofs.Common.{refl}
use Rattle.hs20_truck.specs.Effects.{effects_of}
use Rattle.hs20_truck.proofs.effects_of.Goals as goal

pub returns-clause-value : goal.returns-clause-value
unfolding effects_of
returns-clause-value c = rw (c.value.ensures.function, c.peak.ensures.function) refl
