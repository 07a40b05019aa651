use Rattle.std.proofs.Common.{◌∙◌, List, sum_by, ap}
use Rattle.axle_train.specs.declared.axle.Axle.{Axle}
use Rattle.convoy_moves.proofs.Together.{gross_of_all}
use Rattle.convoy_moves.proofs.convoy.Convoy.gross.Goals as goal

pub returns : goal.returns
returns c =
    let kept = rw c.self.view_is at c.self.invariant in
    c.gross.ensures.sum ∙ ap (λ (axles : List Axle). sum_by (λ a. a.weight) axles) kept.together ∙ gross_of_all c.args.self.now
