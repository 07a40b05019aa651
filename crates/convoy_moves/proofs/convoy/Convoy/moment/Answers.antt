use Rattle.convoy_moves.proofs.Closest.{kept_moment}
use Rattle.convoy_moves.proofs.convoy.Convoy.moment.Goals as goal

pub returns-clause-peak : goal.returns-clause-peak
returns-clause-peak c =
    let kept = rw c.self.view_is at c.self.invariant in
    let peak = c.value.result in
    kept_moment c.args.self.now c.self.inside.closest c.args.span peak.num peak.den kept c.value.ensures.peak
