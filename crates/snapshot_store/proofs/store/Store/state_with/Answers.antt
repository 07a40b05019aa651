use Rattle.std.proofs.Common.{◌∙◌, ap}
use Rattle.restriction_log.specs.States.{InForce, state_after}
use Rattle.snapshot_store.proofs.Keeping.{made_is_of, names_taken}
use Rattle.snapshot_store.proofs.store.Store.state_with.Goals as goal

pub with-requires : goal.with-requires
with-requires c = rw c.deref.ensures (names_taken c.self.inside _ _ c.self.view_is c.self.invariant c.requires)

pub returns-clause-of_network : goal.returns-clause-of_network
returns-clause-of_network c =
    let made = c.in_ok-new.ensures.ok ∙ (c.in_ok-state.ensures.value ∙ ap (λ (s : InForce). state_after s c.args.change.now) c.deref.ensures) in
    made_is_of c.self.inside _ _ _ c.self.view_is c.self.invariant c.requires made
