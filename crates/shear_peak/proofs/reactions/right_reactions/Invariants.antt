use Rattle.std.proofs.Common.{◌≡◌, ℕ, ◌+◌, ◌<◌, ◌≤◌, length, slice_index}
use Rattle.axle_train.specs.Trains.{axle_at}
use Rattle.influence_line.specs.declared.placing.End.TheVariants.{Right}
use Rattle.shear_peak.specs.Ends.{reaction_to}
use Rattle.shear_peak.specs.Fronts.{IsFront}
use Rattle.shear_peak.proofs.reactions.right_reactions.Given as goal

abbrev pub invariant-loop-k : goal.invariant-loop-k
invariant-loop-k l = record {
  before : IsFront l.train l.before;
  off : (i j : ℕ) → i < l.before.axles → l.k ≤ j → j < length l.train → (axle_at l.train i).place + l.span ≤ (axle_at l.train j).place;
  through : IsFront l.train l.through;
  last : l.through.axles ≡ l.k;
  room : length l.reactions ≡ 32;
  done : (i : ℕ) → i < l.k → slice_index l.reactions i ≡ reaction_to l.train l.span Right i;
}
