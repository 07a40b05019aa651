-- How the store of a follower goes on.
use Rattle.std.proofs.Common.{Option, Some, None}
use Rattle.restriction_log.specs.declared.change.Change.{Change}
use Rattle.snapshot_store.specs.Stores.{IsLater, Stored, with_change}
use Rattle.snapshot_store.proofs.Later.{later_on, later_posted, later_same}
use Rattle.trip_analysis.specs.Followers.{GoesOn}

-- a store goes on from the snapshot that was taken of it
pub goes_on_here : (s : Stored) → GoesOn (Some s) s
goes_on_here s = later_same s

-- and still does with one posting more
pub goes_on_posted : (last : Option Stored) (s : Stored) (change : Change) → GoesOn last s → GoesOn last (with_change s change)
goes_on_posted None s change is = tt
goes_on_posted (Some last) s change is = later_posted last s change is

-- and with any number more
pub goes_on_later : (last : Option Stored) (now next : Stored) → GoesOn last now → IsLater now next → GoesOn last next
goes_on_later None now next is on = tt
goes_on_later (Some last) now next is on = later_on last now next is on
