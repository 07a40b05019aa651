-- What the seats of actors say of the entries that were laid at them.
use Rattle.std.specs.Prelude.{◌≡◌, ◌≢◌, ◌<◌, ◌≤◌, ◌⊎◌, ℕ, List, Option, MatchOption, All, drop, length, slice_index_or}
use Rattle.day_text.specs.Scripts.{script_of}
use Rattle.day_text.specs.declared.orders.Order.{Order}
use Rattle.office_words.specs.declared.entry.Entry.{Entry}
use Rattle.office_words.specs.declared.entry.Reply.TheVariants as reply
use Rattle.office_core.specs.Machine.{entries_by}
use Rattle.journal_whole.specs.Leaving.{AreNext, IsNext, Left, after, after_all, fresh}
use Rattle.journal_whole.specs.declared.seat.Seat.{Seat}

-- what is left of the commands at a seat
abbrev pub left_of : List Order → Seat → Left
left_of orders s = record { rest = script_of s.actor (drop s.next orders); tries = s.tries; looked = s.looked }

-- the seat names its actor's next command, or the end of the commands where none is left
pub record IsSeat (orders : List Order) (s : Seat) : Type 0 where
  pub there : s.next ≤ length orders
  pub own : (d : Order) → s.next < length orders → (slice_index_or orders s.next d).actor ≡ s.actor

-- the entry was the next one, and this is the seat behind it
pub record HasTaken (orders : List Order) (s : Seat) (e : Entry) (t : Seat) : Type 0 where
  pub next : IsNext (left_of orders s) e
  pub actor : t.actor ≡ s.actor
  pub left : left_of orders t ≡ after (left_of orders s) e
  pub seat : IsSeat orders t

-- the entry was taken at a seat, or it was not the next one
abbrev pub IsTaken : List Order → Seat → Entry → Option Seat → Type 0
IsTaken orders s e taken = MatchOption taken (IsNext (left_of orders s) e → ⊥) (HasTaken orders s e)

-- the entries of the seat's actor came next, one after another, and the seat is behind them
pub record IsBehind (orders : List Order) (es : List Entry) (actor : ℕ) (s : Seat) : Type 0 where
  pub actor_is : s.actor ≡ actor
  pub next : AreNext (fresh (script_of actor orders)) (entries_by actor es)
  pub left : left_of orders s ≡ after_all (fresh (script_of actor orders)) (entries_by actor es)
  pub seat : IsSeat orders s

-- the seats of so many actors, behind these entries, which nobody else has, and of which none says that memory was wanting
pub record AreSeats (actors : ℕ) (orders : List Order) (es : List Entry) (seats : List Seat) : Type 0 where
  pub count : length seats ≡ actors
  pub callers : All (λ e. e.caller < actors) es
  pub memory : All (λ e. e.reply ≢ reply.NoMemory) es
  pub each : (i : ℕ) (d : Seat) → i < actors → IsBehind orders es i (slice_index_or seats i d)

-- the first command that a seat names, of so many commands, or their number
pub record IsFirstLeft (seats : List Seat) (orders : ℕ) (first : ℕ) : Type 0 where
  pub within : first ≤ orders
  pub least : (i : ℕ) (d : Seat) → i < length seats → first ≤ (slice_index_or seats i d).next
  pub named : (first ≡ orders) ⊎ ((i : ℕ) × (i < length seats) × ((d : Seat) → (slice_index_or seats i d).next ≡ first))
