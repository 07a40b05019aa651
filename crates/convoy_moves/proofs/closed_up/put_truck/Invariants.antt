use Rattle.std.proofs.Common.{◌≡◌, ◌+◌, ◌++◌, length, take}
use Rattle.convoy_moves.specs.Convoys.{moved_back}
use Rattle.convoy_moves.proofs.closed_up.put_truck.Given as goal

abbrev pub invariant-loop-i : goal.invariant-loop-i
invariant-loop-i l = record {
  room : length l.axles ≡ 32;
  so_far : take (l.front + l.i) l.axles ≡ take l.front l.fn.axles ++ moved_back l.by (take l.i l.truck);
}
