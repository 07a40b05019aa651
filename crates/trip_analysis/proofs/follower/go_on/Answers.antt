use Rattle.std.proofs.Common.{Option, subst}
use Rattle.snapshot_store.specs.Stores.{Stored, state_now}
use Rattle.trip_analysis.specs.Followers.{AreKnownAt}
use Rattle.trip_analysis.proofs.follower.go_on.Goals as goal

pub returns-in_default-clause-known : goal.returns-in_default-clause-known
returns-in_default-clause-known g c =
    let a = c.args in (subst (λ (last : Option Stored). AreKnownAt a.base.now last a.analyst.now) c.in_default.is c.requires.known) (state_now a.next.now)
