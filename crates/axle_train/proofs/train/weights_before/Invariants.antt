use Rattle.std.proofs.Common.{◌≡◌, ◌≤◌, ℕ, length, slice_index}
use Rattle.axle_train.specs.Trains.{weight_before}
use Rattle.axle_train.proofs.train.weights_before.Given as goal

abbrev pub invariant-loop-i : goal.invariant-loop-i
invariant-loop-i l = record {
  room : length l.before ≡ 33;
  sum : l.total ≡ weight_before l.list l.i;
  so_far : (k : ℕ) → k ≤ l.i → slice_index l.before k ≡ weight_before l.list k;
}
