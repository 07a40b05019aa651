-- What contracts see of a follower, and what it keeps.
use Rattle.std.specs.Prelude.{Option, Some, None}
use Rattle.restriction_log.specs.States.{InForce}
use Rattle.snapshot_store.specs.Stores.{IsLater, Stored, state_now}
use Rattle.trip_analysis.specs.declared.analyst.Analyst.{Analyst}
use Rattle.trip_analysis.specs.declared.follower.Follower.TheInside.{Inside}
use Rattle.trip_analysis.specs.Bases.{BaseLists}
use Rattle.trip_analysis.specs.Known.{AreKnown}

-- the base that a follower is of, and the last snapshot that it was given, if there was one
pub record Followed : Type 0 where
  pub base : BaseLists
  pub last : Option Stored

-- a follower of this base who was given no snapshot yet
abbrev pub newly_followed : BaseLists → Followed
newly_followed base = record { base = base; last = None }

-- a follower of this base, and the last snapshot that it was given
abbrev pub followed : BaseLists → Stored → Followed
followed base last = record { base = base; last = Some last }

-- a snapshot goes on from the last one, if there was one
abbrev pub GoesOn : Option Stored → Stored → Type 0
GoesOn None next = Unit {0}
GoesOn (Some last) next = IsLater last next

abbrev pub followed_in : Inside → Followed
followed_in f = record { base = f.base.value; last = f.last }

-- what is known is known in the state of this snapshot, or, where there was none, in every state
abbrev pub AreKnownAt : BaseLists → Option Stored → Analyst → Type 0
AreKnownAt base None analyst = (state : InForce) → AreKnown base state analyst
AreKnownAt base (Some last) analyst = AreKnown base (state_now last) analyst

-- what it keeps is known at the last snapshot
abbrev pub IsFollower : Inside → Type 0
IsFollower f = AreKnownAt f.base.value f.last f.analyst
