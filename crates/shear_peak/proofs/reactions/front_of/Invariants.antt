use Rattle.std.proofs.Common.{◌≡◌, ℕ, ◌<◌}
use Rattle.axle_train.specs.Trains.{axle_at}
use Rattle.shear_peak.specs.Fronts.{IsFront}
use Rattle.shear_peak.proofs.reactions.front_of.Given as goal

abbrev pub invariant-loop-i : goal.invariant-loop-i
invariant-loop-i l = record {
  front : IsFront l.train l.found;
  at : l.found.axles ≡ l.i;
  near : (j : ℕ) → j < l.i → (axle_at l.train j).place < l.reach;
}
