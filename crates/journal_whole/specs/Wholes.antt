-- What it means that a history is one of all the commands of a day, and what is said of one that is not.
use Rattle.std.specs.Prelude.{◌≡◌, ◌≢◌, ◌<◌, ◌+◌, ◌++◌, ℕ, List, All, length, take}
use Rattle.day_text.specs.Scripts.{script_of}
use Rattle.day_text.specs.declared.orders.Order.{Order}
use Rattle.office_words.specs.declared.entry.Entry.{Entry}
use Rattle.office_words.specs.declared.entry.Reply.TheVariants as reply
use Rattle.office_core.specs.Machine.{entries_by}
use Rattle.analyst_pool.specs.Unfolds.{AreFinished}
use Rattle.journal_whole.specs.declared.wholeness.Wholeness.{Wholeness}
use Rattle.journal_whole.specs.declared.wholeness.Wholeness.TheVariants.{Lacks, Strays, Whole}

-- The entries of each actor are those of its finished commands, one after another; nobody else has an entry; and no answer is
-- that memory was wanting.
pub record IsWhole (actors : ℕ) (orders : List Order) (es : List Entry) : Type 0 where
  pub commands : (actor : ℕ) → actor < actors → AreFinished actor (script_of actor orders) (entries_by actor es)
  pub callers : All (λ e. e.caller < actors) es
  pub memory : All (λ e. e.reply ≢ reply.NoMemory) es

-- the entries may stand at the front of a whole history: with some that come behind them they are one
abbrev pub IsFront : ℕ → List Order → List Entry → Type 0
IsFront actors orders es = (more : List Entry) × IsWhole actors orders (es ++ more)

-- the first n entries are such a front, and the first n + 1 are none: so n is the least such number
pub record IsFirstStray (actors : ℕ) (orders : List Order) (es : List Entry) (n : ℕ) : Type 0 where
  pub there : n < length es
  pub before : IsFront actors orders (take n es)
  pub strays : IsFront actors orders (take (n + 1) es) → ⊥

-- these commands are finished: the entries of each actor begin with those of its finished commands among them
abbrev pub HasFinished : ℕ → List Order → List Entry → Type 0
HasFinished actors orders es = (actor : ℕ) → actor < actors
    → (front : List Entry) × (back : List Entry) × AreFinished actor (script_of actor orders) front
    × (entries_by actor es ≡ front ++ back)

-- the entries are the front of a whole history, the first k commands are finished, and the first k + 1 are not: so k is the
-- least such number
pub record IsFirstLacking (actors : ℕ) (orders : List Order) (es : List Entry) (k : ℕ) : Type 0 where
  pub there : k < length orders
  pub front : IsFront actors orders es
  pub before : HasFinished actors (take k orders) es
  pub lacks : HasFinished actors (take (k + 1) orders) es → ⊥

-- what is said of the commands of so many actors and of a history
abbrev pub IsWholeness : ℕ → List Order → List Entry → Wholeness → Type 0
IsWholeness actors orders es Whole = IsWhole actors orders es
IsWholeness actors orders es (Strays n) = IsFirstStray actors orders es n
IsWholeness actors orders es (Lacks k) = IsFirstLacking actors orders es k

-- one thing is right to say of a history
abbrev pub WholenessIsOne : Type 0
WholenessIsOne = (actors : ℕ) (orders : List Order) (es : List Entry) (v w : Wholeness)
    → IsWholeness actors orders es v → IsWholeness actors orders es w → v ≡ w
