use Rattle.std.proofs.Common.{◌+◌, ◌<◌, arith}
use Rattle.std.proofs.lemmas.Grind.{common_steps}
use Rattle.axle_train.specs.Trains.{axle_at}
use Rattle.axle_train.proofs.Places.{place_ordered}
use Rattle.influence_line.specs.declared.placing.End.TheVariants.{Left}
use Rattle.shear_peak.specs.Ends.{reaction_to}
use Rattle.shear_peak.proofs.Entries.{entry_more}
use Rattle.shear_peak.proofs.reactions.left_reactions.Goals as goal

pub loop-k-preserved : goal.loop-k-preserved
loop-k-preserved c = record {
  before = c.with_next-before.ensures.front;
  first = omega arith;
  through = c.front_of-through.ensures.front;
  on = λ i j in_front from within.
      let here : (axle_at c.args.train.now i).place < (axle_at c.args.train.now c.loop-k.k).place + c.args.span = rw c.axle-place.ensures.value at (c.front_of-through.ensures.near i in_front) in
      omega (arith, here, place_ordered c.args.train.now 0 c.loop-k.k j c.len-k-end.ensures.bounds.rising (omega (arith, from)) within);
  room = grind (arith, common_steps);
  done = entry_more (reaction_to c.args.train.now c.args.span Left) c.loop-k.reactions c.loop-k.k c.left_reaction.result (omega (arith, c.loop-k.invariant.room, c.loop-k-test.true, c.len-k-end.ensures.count, c.len-k-end.ensures.bounds.few)) c.loop-k.invariant.done c.left_reaction.ensures;
}
