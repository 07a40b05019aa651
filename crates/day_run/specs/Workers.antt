-- What the actors of a day leave at their desk.
use Rattle.std.specs.Prelude.{◌≡◌, ◌≢◌, ◌<◌, ◌≤◌, ℕ, List, [], Some, None, Option, length, slice_index_or, All, Any, Contains, Vec, vec_len, if◌then◌else◌}
use Rattle.std.specs.Global.{Global}
use Rattle.trip_analysis.specs.Bases.{BaseLists}
use Rattle.office_words.specs.declared.entry.Command.{Command}
use Rattle.office_words.specs.declared.entry.Entry.{Entry}
use Rattle.office_turn.specs.Told.{IsReady, Lock, Passing, receipt_for}
use Rattle.office_turn.specs.declared.view.Receipt.{Receipt}
use Rattle.office_desk.specs.Desks.{Terms}
use Rattle.office_words.specs.Commands.{MayCarryOut}
use Rattle.analyst_pool.specs.Ran.{AddsEntries}
use Rattle.analyst_pool.specs.declared.worker.Outcome.{Outcome}
use Rattle.analyst_pool.specs.declared.worker.Outcome.TheVariants as outcome
use Rattle.analyst_pool.specs.declared.worker.Worker.{Worker}
use Rattle.day_run.specs.declared.ended.Ended.{Ended}
use Rattle.day_run.specs.declared.ended.Ended.TheVariants as ended

-- an actor found the history full
abbrev pub IsFullOutcome : Outcome → Type 0
IsFullOutcome o = (command : ℕ) × (most : ℕ) × (o ≡ outcome.Full command most)

-- each of the scripts has few enough commands to be numbered
abbrev pub AreShort : List (Vec Command Global) → Type 0
AreShort scripts = (i : ℕ) (s : Vec Command Global) → i < length scripts
    → vec_len (slice_index_or scripts i s) ≤ 4294967295

-- and each of their commands may be carried out over these roads and trucks
abbrev pub AreSound : BaseLists → List (Vec Command Global) → Type 0
AreSound base scripts = (i : ℕ) (s : Vec Command Global) → i < length scripts
    → All (MayCarryOut base) (slice_index_or scripts i s).items

module _ {C : Type 0} (pass_of : C → Passing Entry Terms) where
  -- the worker of an actor, before it works: it waits with its script, and its pass is new
  pub record IsFresh (lock : Lock Terms) (script : Vec Command Global) (actor : ℕ) (w : Worker C) : Type 0 where
    pub waits : w.outcome ≡ outcome.Waiting
    pub given : w.script ≡ script
    pub ready : IsReady lock (pass_of w.calls)
    pub number : (pass_of w.calls).number ≡ actor
    pub own : (pass_of w.calls).own ≡ []

  -- the workers of some scripts, one after another
  abbrev pub AreFresh : Lock Terms → List (Vec Command Global) → List (Worker C) → Type 0
  AreFresh lock scripts workers = (i : ℕ) (s : Vec Command Global) (w : Worker C) → i < length scripts
      → IsFresh lock (slice_index_or scripts i s) i (slice_index_or workers i w)

  -- the passes of all workers are of this lock
  abbrev pub AreAt : Lock Terms → List (Worker C) → Type 0
  AreAt lock workers = (i : ℕ) (w : Worker C) → i < length workers
      → (pass_of (slice_index_or workers i w).calls).lock ≡ lock

  -- the pass of each worker from this one on was taken in: the root has its receipt
  abbrev pub AreReceivedFrom : ℕ → List (Receipt Entry) → List (Worker C) → Type 0
  AreReceivedFrom from receipts workers = (i : ℕ) (w : Worker C) → from ≤ i → i < length workers
      → Contains receipts (receipt_for (pass_of (slice_index_or workers i w).calls))

-- each worker from this one on carried out all its commands
abbrev pub AreDoneFrom : {C : Type 0} → ℕ → List (Worker C) → Type 0
AreDoneFrom {C} from workers = (i : ℕ) (w : Worker C) → from ≤ i → i < length workers
    → (slice_index_or workers i w).outcome ≡ outcome.Done

-- one of the workers found the history full
abbrev pub OneIsFull : {C : Type 0} → List (Worker C) → Type 0
OneIsFull workers = Any (λ w. IsFullOutcome w.outcome) workers

-- the most entries of the history, where a receipt says that they were found to be reached
abbrev pub full_by : Lock Terms → Receipt Entry → Option ℕ
full_by lock r = if r.worn then Some lock.most else None

-- one of the receipts is of an actor whose worker ended so: its own entries are what that says of the script
pub record HasRun (lock : Lock Terms) (receipts : List (Receipt Entry)) (actor : ℕ) (script : List Command) (o : Outcome)
    : Type 0 where
  pub receipt : Receipt Entry
  pub there : Contains receipts receipt
  pub number : receipt.number ≡ actor
  pub adds : AddsEntries actor script o receipt.own (full_by lock receipt)

-- unless memory was wanting each actor has run, and they ended so, all together
pub record HaveRun (lock : Lock Terms) (receipts : List (Receipt Entry)) (scripts : List (Vec Command Global)) (e : Ended)
    : Type 0 where
  pub each : e ≢ ended.NoMemory → (i : ℕ) (s : Vec Command Global) → i < length scripts
      → (o : Outcome) × HasRun lock receipts i (slice_index_or scripts i s).items o
  pub done : e ≡ ended.Done → (i : ℕ) (s : Vec Command Global) → i < length scripts
      → HasRun lock receipts i (slice_index_or scripts i s).items outcome.Done
  pub full : e ≡ ended.Full → (i : ℕ) × (s : Vec Command Global) × (i < length scripts)
      × (o : Outcome) × IsFullOutcome o × HasRun lock receipts i (slice_index_or scripts i s).items o
