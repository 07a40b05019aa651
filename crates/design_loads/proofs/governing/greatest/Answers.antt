-- What is computed is the function of the span, and that is the greatest.
use Rattle.std.proofs.Common.{sym, subst}
use Rattle.design_loads.specs.Greatest.{AreGreatest}
use Rattle.design_loads.proofs.Choosing.{put_together_is, greatest_is_of_the_peaks}
use Rattle.design_loads.proofs.governing.greatest.Goals as goal

pub returns-clause-value : goal.returns-clause-value
returns-clause-value c =
    let military = rw c.military.ensures at c.effects_of-military.ensures.value in
    put_together_is c.args.span c.effects-truck.result c.lane-lane.result c.effects_of-military.result
    c.governing-moment.result c.governing-shear.result
    c.effects-truck.ensures.value c.lane-lane.ensures.value military c.governing-moment.ensures c.governing-shear.ensures

pub returns-clause-greatest : goal.returns-clause-greatest
returns-clause-greatest c =
    subst (AreGreatest c.args.span) (sym (returns-clause-value c))
    (greatest_is_of_the_peaks c.args.span c.requires.0 c.requires.1)
