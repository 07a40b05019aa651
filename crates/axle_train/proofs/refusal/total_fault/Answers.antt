use Rattle.std.proofs.Common.{arith}
use Rattle.std.proofs.lemmas.List.Sums.{sum_by_more}
use Rattle.axle_train.specs.declared.axle.Axle.{Axle}
use Rattle.axle_train.specs.Trains.{no_axle}
use Rattle.axle_train.proofs.Accepted.{weight_at}
use Rattle.axle_train.proofs.refusal.total_fault.Goals as goal

pub overflow_add-gross : goal.overflow_add-gross
overflow_add-gross c =
    let light = weight_at c.args.axles.now 0 c.loop-i.i c.requires.weights c.loop-i-test.true in
    grind arith

pub loop-i-preserved : goal.loop-i-preserved
loop-i-preserved c =
    let light = weight_at c.args.axles.now 0 c.loop-i.i c.requires.weights c.loop-i-test.true in
    let more = sum_by_more (λ (a : Axle). a.weight) c.args.axles.now c.loop-i.i no_axle c.loop-i-test.true in
    (grind arith, grind arith)
