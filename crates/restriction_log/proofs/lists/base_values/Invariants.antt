use Rattle.std.proofs.Common.{◌≡◌, map, take}
use Rattle.restriction_log.proofs.lists.base_values.Given as goal

abbrev pub invariant-segments : goal.invariant-segments
invariant-segments l = l.values.items ≡ map (λ s. s.base) (take l.i l.network.segments)
