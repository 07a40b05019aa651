use Rattle.std.proofs.Common.{◌≡◌, map, take}
use Rattle.restriction_log.proofs.lists.base_ratings.Given as goal

abbrev pub invariant-spans : goal.invariant-spans
invariant-spans l = l.ratings.items ≡ map (λ t. t.rating) (take l.i l.network.spans)
