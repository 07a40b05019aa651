-- Who finds what the applications of a caller need, from one snapshot to the next.
use Rattle.std.specs.Prelude.{◌≡◌, Option, IfSome}
use Rattle.snapshot_store.specs.Stores.{Stored}
use Rattle.trip_analysis.specs.Bases.{BaseLists}
use Rattle.trip_analysis.specs.Followers.{Followed, GoesOn}
use Rattle.office_core.specs.Calls.{Calling, stored_seen}

-- a follower is of this base, and this is of the version of its last snapshot or of a later one
pub record FollowsAt (base : BaseLists) (now : Stored) (f : Followed) : Type 0 where
  pub base_is : f.base ≡ base
  pub later : GoesOn f.last now

-- a follower, if there is one, can go on to what has been seen
abbrev pub MayFollow : {P : Type 0} → Option Followed → Calling P → Type 0
MayFollow f v = IfSome f (FollowsAt v.who.base (stored_seen v))
