-- What the entries of a whole history have to do with the commands of the day.
use Rattle.std.specs.Prelude.{◌≡◌, ◌≤◌, ◌⊎◌, ℕ, List, Some, All, Contains, length}
use Rattle.day_text.specs.declared.orders.Order.{Order}
use Rattle.office_words.specs.declared.entry.Call.{Call}
use Rattle.office_words.specs.declared.entry.Call.TheVariants as call
use Rattle.office_words.specs.declared.entry.Command.{Command}
use Rattle.office_words.specs.declared.entry.Command.TheVariants as command
use Rattle.office_words.specs.declared.entry.Entry.{Entry}
use Rattle.office_core.specs.Happened.{application_in, issued_in}
use Rattle.journal_whole.specs.Wholes.{IsWhole}

-- the command wants what the call asks: an application wants that it is submitted, or that the office finds what it needs
abbrev pub Wants : Command → Call → Type 0
Wants (command.Apply a) c = application_in c ≡ Some a
Wants (command.Post change) c = c ≡ call.Post change
Wants (command.Day day) c = c ≡ call.Day day
Wants (command.Surrender number) c = c ≡ call.Surrender number
Wants (command.Show number) c = c ≡ call.Show number

-- the entry looks, or asks what one of the commands wants that its caller has
abbrev pub IsOrdered : List Order → Entry → Type 0
IsOrdered orders e = (e.call ≡ call.Snapshot)
    ⊎ ((order : Order) × Contains orders order × (order.actor ≡ e.caller) × Wants order.command e.call)

-- in a whole history each entry is ordered
abbrev pub WholeHistoriesAskWhatWasOrdered : Type 0
WholeHistoriesAskWhatWasOrdered = (actors : ℕ) (orders : List Order) (es : List Entry)
    → IsWhole actors orders es → All (IsOrdered orders) es

-- a whole history issues at most as many permits as there are commands
abbrev pub WholeHistoriesIssueFew : Type 0
WholeHistoriesIssueFew = (actors : ℕ) (orders : List Order) (es : List Entry)
    → IsWhole actors orders es → issued_in es ≤ length orders
