use Rattle.shear_peak.proofs.Peaks.{right_best}
use Rattle.shear_peak.proofs.first_best.Goals as goal

pub returns-then-right-left-clause-best : goal.returns-then-right-left-clause-best
returns-then-right-left-clause-best c =
    let left = c.best_at-left in
    let right = c.best_at-right in
    right_best c.args.train.now c.args.span left.result right.result left.ensures.end right.ensures.end left.ensures.best right.ensures.best c.if-right-left.true
