use Rattle.convoy_moves.proofs.Closest.{kept_shear}
use Rattle.convoy_moves.proofs.convoy.Convoy.shear.Goals as goal

pub returns-clause-peak : goal.returns-clause-peak
returns-clause-peak c =
    let kept = rw c.self.view_is at c.self.invariant in
    let peak = c.peak.result.value in
    kept_shear c.args.self.now c.self.inside.closest c.args.span peak.num peak.den kept c.peak.ensures.peak
