-- The two fractions are in lowest terms and have the values of the peaks.
use Rattle.design_loads.specs.LanePeaks.{AreLaneEffects}
use Rattle.design_loads.proofs.OneLane.{lane_effects, lane_is_one}
use Rattle.design_loads.proofs.loads.lane.Goals as goal

peaks : (c : goal.After-reduced-2) → AreLaneEffects c.args.span (record { moment = c.reduced.result; shear = c.reduced-2.result })
peaks c =
    let moment = rw c.from-inches.ensures at c.reduced.ensures.value in
    let shear = rw c.from-inches.ensures at c.reduced-2.ensures.value in
    lane_effects c.args.span c.reduced.result c.reduced-2.result c.requires.0 c.requires.1
    c.reduced.ensures.lowest moment c.reduced-2.ensures.lowest shear

pub returns-clause-peaks : goal.returns-clause-peaks
returns-clause-peaks c = peaks c

pub returns-clause-value : goal.returns-clause-value
returns-clause-value c = lane_is_one c.args.span _ c.requires.0 c.requires.1 (peaks c)
