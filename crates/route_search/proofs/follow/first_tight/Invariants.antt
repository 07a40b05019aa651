use Rattle.std.proofs.Common.{◌≡◌, ◌<◌, ℕ, Some}
use Rattle.std.specs.Prelude.{slice_get}
use Rattle.route_search.specs.Walks.{flagged}
use Rattle.route_search.specs.Following.{IsTightSegment}
use Rattle.route_search.proofs.follow.first_tight.Given as goal

abbrev pub invariant-loop-i : goal.invariant-loop-i
invariant-loop-i l = (j m : ℕ) → j < l.i-index → slice_get l.i-items j ≡ Some m → IsTightSegment l.roads.network.now.segments (flagged l.roads.flags.now) l.potentials l.near.node l.near.length m → ⊥
