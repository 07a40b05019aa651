use Rattle.std.proofs.Common.{◌+◌, ◌-◌, ◌<◌, ◌≤◌, arith, ap}
use Rattle.std.proofs.lemmas.Grind.{common_steps}
use Rattle.axle_train.specs.declared.axle.Axle.{Axle}
use Rattle.axle_train.specs.Trains.{axle_at}
use Rattle.axle_train.proofs.Places.{place_ordered}
use Rattle.influence_line.specs.declared.placing.End.TheVariants.{Right}
use Rattle.shear_peak.specs.Ends.{reaction_to}
use Rattle.shear_peak.proofs.Entries.{entry_more}
use Rattle.shear_peak.proofs.reactions.right_reactions.Goals as goal

pub loop-k-preserved : goal.loop-k-preserved
loop-k-preserved c = record {
  before = c.front_of-before.ensures.front;
  off = λ i j in_front from within.
      let here : (axle_at c.args.train.now i).place + c.args.span ≤ (axle_at c.args.train.now c.loop-k.k).place =
      let near : (axle_at c.args.train.now i).place < c.axle-place.result.place + 1 - c.args.span = rw c.saturating_sub.ensures at (c.front_of-before.ensures.near i in_front) in
      omega (arith, near, ap (λ (a : Axle). a.place) c.axle-place.ensures.value) in
      omega (arith, here, place_ordered c.args.train.now 0 c.loop-k.k j c.len-k-end.ensures.bounds.rising (omega (arith, from)) within);
  through = c.with_next-through.ensures.front;
  last = omega arith;
  room = grind (arith, common_steps);
  done = entry_more (reaction_to c.args.train.now c.args.span Right) c.loop-k.reactions c.loop-k.k c.right_reaction.result (omega (arith, c.loop-k.invariant.room, c.loop-k-test.true, c.len-k-end.ensures.count, c.len-k-end.ensures.bounds.few)) c.loop-k.invariant.done c.right_reaction.ensures;
}
