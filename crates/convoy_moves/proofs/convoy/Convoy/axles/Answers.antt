use Rattle.std.proofs.Common.{◌∙◌, List, length, ap}
use Rattle.axle_train.specs.declared.axle.Axle.{Axle}
use Rattle.convoy_moves.proofs.Together.{axles_of_all}
use Rattle.convoy_moves.proofs.convoy.Convoy.axles.Goals as goal

pub returns : goal.returns
returns c =
    let kept = rw c.self.view_is at c.self.invariant in
    c.len.ensures.count ∙ ap (λ (axles : List Axle). length axles) kept.together ∙ axles_of_all c.args.self.now
