use Rattle.std.proofs.Common.{subst}
use Rattle.restriction_log.specs.States.{AreOf}
use Rattle.std.specs.Arc.{arc_value}
use Rattle.snapshot_store.specs.Stores.{Stored}
use Rattle.snapshot_store.proofs.Keeping.{kept_is_of}
use Rattle.snapshot_store.proofs.snapshot.Snapshot.state.Goals as goal

pub returns-clause-of_network : goal.returns-clause-of_network
returns-clause-of_network c =
    let state = arc_value c.self.inside.state in
    rw c.deref.ensures (subst (λ (s : Stored). AreOf s.roads state) c.self.view_is (kept_is_of _ state _ c.self.invariant.kept))
