use Rattle.hs20_truck.proofs.OneEffects.{of_all_spacings, design_is_one}
use Rattle.hs20_truck.proofs.effects.Goals as goal

pub returns-clause-all : goal.returns-clause-all
returns-clause-all c =
    of_all_spacings c.args.span c.effects_of.result (rw c.truck.ensures at c.effects_of.ensures.peaks)

pub returns-clause-value : goal.returns-clause-value
returns-clause-value c = design_is_one c.args.span c.effects_of.result c.requires.0 c.requires.1 (returns-clause-all c)
