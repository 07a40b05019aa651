-- What contracts see of an office.
use Rattle.std.specs.Prelude.{◌≡◌, ◌≤◌, ◌<◌, ◌++◌, ◌∷◌, [], ℕ, List, length, All, vec_capacity}
use Rattle.snapshot_store.specs.Stores.{Stored}
use Rattle.trip_analysis.specs.Bases.{BaseLists}
use Rattle.office_words.specs.declared.entry.Call.{Call}
use Rattle.office_words.specs.declared.entry.Reply.{Reply}
use Rattle.office_words.specs.declared.entry.Entry.{Entry}
use Rattle.office_core.specs.declared.office.Office.TheInside.{Inside}
use Rattle.office_core.specs.Machine.{IsLegal, Machine, Step, machine_of, stored_of}

-- what the office is about, the day on which it opened, the most entries that its history may hold, and the history
pub record Opened : Type 0 where
  pub base : BaseLists
  pub opening : List ℕ
  pub most : ℕ
  pub history : List Entry

-- an office begins with no entry
abbrev pub newly_opened : BaseLists → List ℕ → ℕ → Opened
newly_opened base day most = record { base = base; opening = day; most = most; history = [] }

abbrev pub seen_of : Inside → Opened
seen_of o = record { base = o.register.base; opening = o.opening; most = o.most; history = o.history.items }

-- an entry: its caller, its call and its reply
abbrev pub entry : ℕ → Call → Reply → Entry
entry caller call reply = record { caller = caller; call = call; reply = reply }

-- the machine that the office's history leaves
abbrev pub machine_in : Opened → Machine
machine_in o = machine_of o.base o.opening o.history

-- what is posted, and on which roads
abbrev pub stored_in_office : Opened → Stored
stored_in_office o = stored_of o.base (machine_in o)

-- the office with one entry more
abbrev pub grown : Opened → Entry → Opened
grown o e = record o { history = o.history ++ e ∷ [] }

-- the history holds the most entries that it may
abbrev pub IsFull : Opened → Type 0
IsFull o = o.most ≤ length o.history

-- the history has a place left for an entry
abbrev pub HasPlace : Opened → Type 0
HasPlace o = length o.history < o.most

-- the entry is a step of the machine, from what the one history leaves to what the other does
abbrev pub IsStep : Opened → Entry → Opened → Type 0
IsStep o e next = Step o.base (machine_in o) e (machine_in next)

-- the history is legal, the register keeps the machine that it leaves, and there is room for the entries that are still to
-- come
pub record IsOffice (o : Inside) : Type 0 where
  pub legal : IsLegal o.register.base o.opening o.history.items
  pub machine : o.register.machine ≡ machine_of o.register.base o.opening o.history.items
  pub callers : All (λ e. e.caller < 65536) o.history.items
  pub room : o.most ≤ vec_capacity o.history
  pub few : length o.history.items ≤ o.most
  pub bounded : o.most ≤ 1000000
