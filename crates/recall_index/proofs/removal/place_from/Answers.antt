use Rattle.std.proofs.Common.{◌<◌}
use Rattle.std.proofs.lemmas.List.Elements.{All-more}
use Rattle.recall_index.proofs.removal.place_from.Goals as goal

pub loop-place-preserved : goal.loop-place-preserved
loop-place-preserved c = All-more (λ n. n < c.args.number) c.args.these.now c.loop-place.place 0 c.loop-place-test.true c.loop-place.invariant c.if-number-these.false
