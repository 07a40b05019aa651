-- The state of a store is of its network, and so is the one that a change makes of it.
use Rattle.std.proofs.Common.{◌≡◌, ℕ, List, true, subst}
use Rattle.std.specs.Arc.{arc_value}
use Rattle.restriction_log.specs.declared.change.Change.{Change}
use Rattle.restriction_log.specs.Changes.{takes}
use Rattle.restriction_log.specs.States.{AreOf, InForce, is_named, state_after}
use Rattle.restriction_log.proofs.Standing.{named_of, state_is_of, stays_of}
use Rattle.snapshot_store.specs.declared.store.Store.TheInside.{Inside}
use Rattle.snapshot_store.specs.Stores.{IsStoreKept, IsStore, Stored, stored_in}

pub kept_is_of : (s : Stored) (kept : InForce) (stamps : List ℕ) → IsStoreKept s kept stamps → AreOf s.roads kept
kept_is_of s kept stamps is = rw is.state (state_is_of s.roads s.postings is.roads is.taken)

-- what is in force is of the network, and has what the network takes
pub now_is_of : (i : Inside) (s : Stored) → stored_in i ≡ s → IsStore i → AreOf s.roads (arc_value i.state)
now_is_of i s seen is = subst (λ (t : Stored). AreOf t.roads (arc_value i.state)) seen (kept_is_of (stored_in i) (arc_value i.state) (arc_value i.stamps) is)

pub names_taken : (i : Inside) (s : Stored) (change : Change) → stored_in i ≡ s → IsStore i → takes s.roads change ≡ true → is_named (arc_value i.state) change ≡ true
names_taken i s change seen is taken = named_of s.roads (arc_value i.state) change (now_is_of i s seen is) taken

-- and so is what a change makes of it
pub made_is_of : (i : Inside) (s : Stored) (change : Change) (made : InForce) → stored_in i ≡ s → IsStore i → takes s.roads change ≡ true
    → made ≡ state_after (arc_value i.state) change → AreOf s.roads made
made_is_of i s change made seen is taken same = rw same (stays_of s.roads (arc_value i.state) change (now_is_of i s seen is) taken)
