-- What the calls of one caller leave. Others may call the same office between them.
use Rattle.std.specs.Prelude.{◌≡◌, ◌++◌, ◌∷◌, [], ℕ, List, length, Option, Some, None, false, if◌then◌else◌, nat_le}
use Rattle.std.specs.Borrow.{GName}
use Rattle.snapshot_store.specs.Stores.{Stored, store_version_of}
use Rattle.trip_analysis.specs.Bases.{BaseLists}
use Rattle.office_words.specs.declared.entry.Call.{Call}
use Rattle.office_words.specs.declared.entry.Call.TheVariants as call
use Rattle.office_words.specs.declared.entry.Entry.{Entry}
use Rattle.office_words.specs.declared.entry.Reply.{Reply}
use Rattle.office_words.specs.declared.entry.Reply.TheVariants as reply
use Rattle.office_core.specs.declared.calls.Looked.{Looked}
use Rattle.office_core.specs.declared.calls.Looked.TheVariants as looked
use Rattle.office_core.specs.Machine.{IsLegal, Machine, entries_by, machine_of, stored_of}
use Rattle.office_core.specs.Offices.{Opened, entry}
use Rattle.office_core.specs.Replies.{is_full}

-- what never changes: where the calls belong, if to anything that others call too; which reference they
-- hold, if any; whose they are; what the office is about, the day on which it opened, and the most entries that
-- its history may hold
pub record Who (P : Type 0) : Type 0 where
  pub place : Option P
  pub reference : Option GName
  pub caller : ℕ
  pub base : BaseLists
  pub opening : List ℕ
  pub most : ℕ

-- the calls of one caller: the history that the caller has seen, the caller's own entries of it, and the most
-- entries of the history, once it was answered that they are reached
pub record Calling (P : Type 0) : Type 0 where
  pub who : Who P
  pub seen : List Entry
  pub own : List Entry
  pub full : Option ℕ

module _ {P : Type 0} where
  -- the machine that the history seen leaves
  abbrev pub machine_seen : Calling P → Machine
  machine_seen v = machine_of v.who.base v.who.opening v.seen

  -- What is seen next: what others entered meanwhile, which is nothing where nobody else calls, and then this
  -- entry.
  pub record Sees (v : Calling P) (e : Entry) (w : Calling P) : Type 0 where
    pub between : List Entry
    pub seen : w.seen ≡ (v.seen ++ between) ++ e ∷ []
    pub alone : v.who.place ≡ None → between ≡ []

  -- The entry was added to a legal history that goes on from the one seen, and it alone to the caller's own
  -- entries.
  pub record Added (v : Calling P) (e : Entry) (w : Calling P) : Type 0 where
    pub own : w.own ≡ v.own ++ e ∷ []
    pub sees : Sees v e w
    pub legal : IsLegal w.who.base w.who.opening w.seen
    pub whole : w.own ≡ entries_by w.who.caller w.seen
    pub full : (most : ℕ) → v.full ≡ Some most → w.full ≡ Some most

  -- No entry was added, since the history holds the most that it may.
  pub record AddedNone (v : Calling P) (most : ℕ) (w : Calling P) : Type 0 where
    pub seen : w.seen ≡ v.seen
    pub own : w.own ≡ v.own
    pub full : w.full ≡ Some most

  -- A call was answered: by an entry with this caller, this call and this reply, or by `Full` and no entry.
  pub record Answered (v : Calling P) (c : Call) (r : Reply) (w : Calling P) : Type 0 where
    pub who : w.who ≡ v.who
    pub full : (most : ℕ) → r ≡ reply.Full most → AddedNone v most w
    pub entry : is_full r ≡ false → Added v (entry v.who.caller c r) w

  -- what the history seen has posted on the roads of the office
  abbrev pub stored_seen : Calling P → Stored
  stored_seen v = stored_of v.who.base (machine_seen v)

  -- A look at the office was answered: by a snapshot of what is then posted. It has its entry also where no
  -- memory was left for the snapshot.
  abbrev pub Looks : Calling P → Looked → Calling P → Type 0
  Looks v (looked.At s) w = Answered v call.Snapshot (reply.SnapshotAt (store_version_of s)) w × (s ≡ stored_seen w)
  Looks v looked.NoMemory w = (version : ℕ) × Answered v call.Snapshot (reply.SnapshotAt version) w
  Looks v (looked.Full most) w = Answered v call.Snapshot (reply.Full most) w

-- an office whose history holds the most entries that it may is full with that number
abbrev pub full_in : Opened → Option ℕ
full_in o = if nat_le o.most (length o.history) then Some o.most else None

-- the calls of one caller of an office that nobody else calls meanwhile
abbrev pub one_seat : {P : Type 0} → GName → ℕ → Opened → Calling P
one_seat reference caller o = record {
  who = record { place = None; reference = Some reference; caller = caller; base = o.base; opening = o.opening; most = o.most };
  seen = o.history;
  own = entries_by caller o.history;
  full = full_in o;
}
