-- What contracts see of a lock, its root, its passes and the value that is held.
use Rattle.std.specs.Prelude.{◌≡◌, ℕ, ◌+◌, ◌<◌, ◌≤◌, Bool, true, false, List, [], ◌∷◌, ◌++◌, Option, Some, None, length, drop, Any}
use Rattle.atomic_table.specs.Seated.{TableId}
use Rattle.atomic_table.specs.declared.shared.Seat.{Seat}
use Rattle.office_turn.specs.Story.{longer_of}
use Rattle.office_turn.specs.declared.view.View.{View}
use Rattle.office_turn.specs.declared.view.Receipt.{Receipt}

-- which lock, the terms of the value at its start, which are always there, and the most turns that it gives
pub record Lock (T : Type 0) : Type 0 where
  pub table : TableId
  pub terms : Option T
  pub most : ℕ

-- a pass: its lock, its number, the entries that it has seen, its own entries, whether it holds a turn, and whether it was ever answered `Worn`
pub record Passing (E T : Type 0) : Type 0 where
  pub lock : Lock T
  pub number : ℕ
  pub seen : List E
  pub own : List E
  pub holds : Bool
  pub worn : Bool

-- a root: its lock, the entries that it has seen, how many passes were admitted, and the receipts of those that were joined
pub record Rooted (E T : Type 0) : Type 0 where
  pub lock : Lock T
  pub seen : List E
  pub admitted : ℕ
  pub receipts : List (Receipt E)

-- a held: the value, and the pass that got it as it was then, which tells the lock and the number
pub record Holding (V E T : Type 0) : Type 0 where
  pub value : V
  pub by : Passing E T

-- the lock of a table, by the terms of its first value and the most turns
abbrev pub lock_of : {T : Type 0} → TableId → T → ℕ → Lock T
lock_of table terms most = record { table = table; terms = Some terms; most = most }

-- the lock that a seat's view names
abbrev pub lock_at : {E T : Type 0} → TableId → View E T → Lock T
lock_at table v = record { table = table; terms = v.terms; most = v.most }

-- one of the receipts has this number
abbrev pub HasReceipt : {E : Type 0} → List (Receipt E) → ℕ → Type 0
HasReceipt receipts number = Any (λ r. number ≡ r.number) receipts

module _ {V E T : Type 0} where
  abbrev pub passing : Seat (Option V) (View E T) → Passing E T
  passing seat = let v = seat.me.0 in record { lock = lock_at seat.table_id v; number = v.number; seen = v.seen; own = v.own; holds = v.looked; worn = v.worn }

  abbrev pub rooted : Seat (Option V) (View E T) → Rooted E T
  rooted seat = let v = seat.me.0 in record { lock = lock_at seat.table_id v; seen = v.seen; admitted = v.admitted; receipts = v.receipts }

  -- the seat of a pass that is not spent. It holds the emptied slot exactly where it has looked, and has no ticket else.
  pub record IsPass (seat : Seat (Option V) (View E T)) (number : ℕ) : Type 0 where
    pub pass : seat.me.0.is_root ≡ false
    pub live : seat.me.0.is_spent ≡ false
    pub number_is : seat.me.0.number ≡ number
    pub bound : number < 65536
    pub idle : seat.me.0.looked ≡ false → (seat.me.1 ≡ []) × (seat.me.0.ticket ≡ None)
    pub holds : seat.me.0.looked ≡ true → seat.me.1 ≡ (0, None) ∷ []

  -- the seat of the root, with both counts
  pub record IsRoot (seat : Seat (Option V) (View E T)) (admitted joined : ℕ) : Type 0 where
    pub root : seat.me.0.is_root ≡ true
    pub live : seat.me.0.is_spent ≡ false
    pub admitted_is : seat.me.0.admitted ≡ admitted
    pub joined_is : length seat.me.0.receipts ≡ joined
    pub tally : joined ≤ admitted
    pub bound : admitted ≤ 65536

module _ {E T : Type 0} where
  -- a pass of this lock that holds no turn
  pub record IsReady (lock : Lock T) (p : Passing E T) : Type 0 where
    pub lock_is : p.lock ≡ lock
    pub idle : p.holds ≡ false

  -- the root at the start: nothing seen, nobody admitted, no receipts
  abbrev pub opening_root : Lock T → Rooted E T
  opening_root lock = record { lock = lock; seen = []; admitted = 0; receipts = [] }

  -- the root after one more pass was admitted
  abbrev pub after_admit : Rooted E T → Rooted E T
  after_admit r = record r { admitted = r.admitted + 1 }

  -- the pass that a root admits: its number is the count before, it has seen what the root has seen, and it has no entries
  abbrev pub admitted_by : Rooted E T → Passing E T
  admitted_by r = record { lock = r.lock; number = r.admitted; seen = r.seen; own = []; holds = false; worn = false }

  -- the pass holds a turn, and has seen the story that it found
  abbrev pub after_hold : Passing E T → List E → Passing E T
  after_hold p story = record p { seen = story; holds = true }

  -- the pass was answered `Worn`: it is marked, and all else stands
  abbrev pub after_worn : Passing E T → Passing E T
  after_worn p = record p { worn = true }

  -- a pass is answered `Worn` with so many turns: they are the most of its lock, and it is marked
  abbrev pub IsToldWorn : Lock T → Passing E T → Passing E T → ℕ → Type 0
  IsToldWorn lock old new turns = (turns ≡ lock.most) × (new ≡ after_worn old)

  -- the pass holds no turn and has seen the whole story, and what is new in the story is its own
  abbrev pub after_pass_on : Passing E T → List E → Passing E T
  after_pass_on p story = record p { seen = story; own = p.own ++ drop (length p.seen) story; holds = false }

  -- the receipt of a pass
  abbrev pub receipt_for : Passing E T → Receipt E
  receipt_for p = record { number = p.number; own = p.own; worn = p.worn }

  -- the root has one receipt more, and has seen the longer of the two lists
  abbrev pub after_join : Rooted E T → Passing E T → Rooted E T
  after_join r p = record r { seen = longer_of r.seen p.seen; receipts = r.receipts ++ receipt_for p ∷ [] }
