-- Which versions the submits of a history name, and the snapshots of those.
use Rattle.std.specs.Prelude.{◌≡◌, ◌<◌, ◌≤◌, ◌+◌, ℕ, Bool, true, false, List, length, take, get_or, slice_get, Some}
use Rattle.snapshot_store.specs.Stores.{IsLater, Stored}
use Rattle.trip_analysis.specs.Bases.{BaseLists}
use Rattle.office_words.specs.declared.entry.Call.{Call}
use Rattle.office_words.specs.declared.entry.Call.TheVariants as call
use Rattle.journal_audit.specs.declared.versions.Versions.{Versions}

-- this version is marked
abbrev pub IsMarkedVersion : List Bool → ℕ → Type 0
IsMarkedVersion marks n = get_or marks n false ≡ true

-- the version that a submit names is marked, if there is a mark for it
abbrev pub IsNamed : List Bool → Call → Type 0
IsNamed marks (call.Submit a p) = p.seen < length marks → IsMarkedVersion marks p.seen
IsNamed marks _ = Unit {0}

-- what was marked stays so
abbrev pub StayMarked : List Bool → List Bool → Type 0
StayMarked old new = (n : ℕ) → IsMarkedVersion old n → IsMarkedVersion new n

-- this snapshot is kept of this version
abbrev pub IsKeptAt : Versions → ℕ → Stored → Type 0
IsKeptAt versions n s = slice_get versions.kept.items n ≡ Some (Some s)

-- some snapshot is
abbrev pub HasKept : Versions → ℕ → Type 0
HasKept versions n = (s : Stored) × IsKeptAt versions n s

-- what the store had at a version
pub record IsVersion (now : Stored) (n : ℕ) (s : Stored) : Type 0 where
  pub roads : s.roads ≡ now.roads
  pub postings : s.postings ≡ take n now.postings

-- how many versions a store has, with that on which nothing is posted
abbrev pub versions_of : Stored → ℕ
versions_of now = length now.postings + 1

-- each snapshot that is kept is of its version of the store, and there is one of each version so far that is marked
pub record AreVersions (now : Stored) (versions : Versions) : Type 0 where
  pub few : length versions.kept.items ≤ versions_of now
  pub each : (n : ℕ) (s : Stored) → IsKeptAt versions n s → IsVersion now n s
  pub marked : (n : ℕ) → n < length versions.kept.items → IsMarkedVersion versions.named.items n → HasKept versions n

-- the snapshots are of the roads, and each goes on from those before it
pub record SnapshotsGoOn (base : BaseLists) (versions : Versions) : Type 0 where
  pub roads : (n : ℕ) (s : Stored) → IsKeptAt versions n s → s.roads ≡ base.roads
  pub later : (m n : ℕ) (s t : Stored) → m ≤ n → IsKeptAt versions m s → IsKeptAt versions n t → IsLater s t
