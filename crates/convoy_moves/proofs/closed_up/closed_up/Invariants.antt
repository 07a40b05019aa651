use Rattle.std.proofs.Common.{◌≡◌, ◌*◌, length, take}
use Rattle.convoy_moves.specs.Convoys.{closest_axles, convoy_of}
use Rattle.convoy_moves.proofs.closed_up.closed_up.Given as goal

abbrev pub invariant-loop-k : goal.invariant-loop-k
invariant-loop-k l = record {
  room : length l.axles ≡ 32;
  so_far : take (l.k * l.len) l.axles ≡ closest_axles (convoy_of l.truck l.k l.gap);
}
