-- What contracts see of a store, of a snapshot, and of a posting that is not in force yet.
use Rattle.std.specs.Prelude.{◌≡◌, ◌<◌, ◌≤◌, ◌++◌, ◌∷◌, [], ℕ, true, false, List, length, drop}
use Rattle.std.specs.Arc.{arc_value}
use Rattle.restriction_log.specs.Roads.{IsRoads, Roads}
use Rattle.restriction_log.specs.declared.change.Change.{Change}
use Rattle.restriction_log.specs.Changes.{AreTaken, is_touched, takes}
use Rattle.restriction_log.specs.States.{InForce, state_of}
use Rattle.restriction_log.specs.Stamps.{HasStamps}
use Rattle.snapshot_store.specs.declared.store.Store.TheInside.{Inside}

-- the network that a store is of, and what was posted on it
pub record Stored : Type 0 where
  pub roads : Roads
  pub postings : List Change

-- of the segments from `from` to before `to` no posting above the number names one or a span of it
abbrev pub AreKept : Stored → ℕ → ℕ → ℕ → Type 0
AreKept s after from to = (i : ℕ) → from ≤ i → i < to → is_touched s.roads i (drop after s.postings) ≡ false

-- a change, and what would be in force
pub record NextState : Type 0 where
  pub change : Change
  pub state : InForce

-- a store of this network on which nothing is posted
abbrev pub newly_stored : Roads → Stored
newly_stored roads = record { roads = roads; postings = [] }

-- the version is the number of the last posting
abbrev pub store_version_of : Stored → ℕ
store_version_of s = length s.postings

-- what is in force
abbrev pub state_now : Stored → InForce
state_now s = state_of s.roads s.postings

-- the store with one posting more
abbrev pub with_change : Stored → Change → Stored
with_change s change = record s { postings = s.postings ++ change ∷ [] }

-- the network takes the change, there is a number left for it, and this is the state that it makes
pub record IsNextOf (s : Stored) (next : NextState) : Type 0 where
  pub takes : takes s.roads next.change ≡ true
  pub room : store_version_of s < 1000000
  pub state : next.state ≡ state_now (with_change s next.change)

abbrev pub stored_in : Inside → Stored
stored_in s = record { roads = s.network.value; postings = s.log }

-- the lists of the network are in order, it takes each posting, of which there are not too many, and the state and the stamps
-- that are kept are those of the postings
pub record IsStoreKept (s : Stored) (kept : InForce) (stamped : List ℕ) : Type 0 where
  pub roads : IsRoads s.roads
  pub taken : AreTaken s.roads s.postings
  pub few : store_version_of s ≤ 1000000
  pub state : kept ≡ state_now s
  pub stamps : HasStamps s.roads s.postings stamped

abbrev pub IsStore : Inside → Type 0
IsStore s = IsStoreKept (stored_in s) (arc_value s.state) (arc_value s.stamps)

-- the store has gone on: of the same network, with these postings and perhaps more behind them
pub record IsLater (before now : Stored) : Type 0 where
  pub roads : now.roads ≡ before.roads
  pub more : List Change
  pub postings : now.postings ≡ before.postings ++ more
