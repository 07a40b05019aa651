-- What holds of an office and its desk while they carry out the commands of a day file.
use Rattle.std.specs.Prelude.{◌≡◌, ◌<◌, ◌++◌, ◌∷◌, [], ℕ, List, length, max, min}
use Rattle.trip_analysis.specs.declared.application.Application.{Application}
use Rattle.trip_analysis.specs.Bases.{BaseLists}
use Rattle.day_text.specs.declared.orders.Order.{Order}
use Rattle.day_text.specs.Days.{DayParts}
use Rattle.office_words.specs.declared.entry.Call.{Call}
use Rattle.office_words.specs.declared.entry.Entry.{Entry}
use Rattle.office_words.specs.declared.entry.Reply.{Reply}
use Rattle.office_core.specs.Happened.{Day}
use Rattle.office_core.specs.Machine.{IsLegal, IsLegalFrom}
use Rattle.office_core.specs.Offices.{IsFull, Opened, entry, machine_in}
use Rattle.reroute_desk.specs.Issues.{recalled_in}
use Rattle.analyst_pool.specs.Laws.{FoundMemory}
use Rattle.analyst_pool.specs.Unfolds.{IsAttempt, IsFinished, IsStopped}
use Rattle.reroute_desk.specs.declared.refusal.RerouteRefusal.{RerouteRefusal}
use Rattle.reroute_desk.specs.declared.refusal.RerouteRefusal.TheVariants as desk
use Rattle.reroute_desk.specs.Desks.{Desk, HasHandledAll, KeepsUp}
use Rattle.day_trial.specs.Serving.{grown_by}
use Rattle.day_trial.specs.declared.refusal.ServingRefusal.{ServingRefusal}
use Rattle.day_trial.specs.declared.refusal.ServingRefusal.TheVariants.{NoMemory, TooMany}
use Rattle.day_trial.specs.Rerouted.{AreRenewed, CarriesOutAgain, IsCutShort, IsTooLong, StopsWithin, most_made}

-- the entries of a command of this caller between which nobody else calls: those of one attempt, or that of one call
pub data IsAtOnce (caller : ℕ) (es : List Entry) : Type 0 where
  attempted : (a : Application) (r : Reply) → IsAttempt caller a r es → IsAtOnce caller es
  called : (c : Call) (r : Reply) → es ≡ entry caller c r ∷ [] → IsAtOnce caller es

-- one command more is finished at once, and memory sufficed
pub record HasFinished (o : Opened) (order : Order) (next : Opened) : Type 0 where
  pub own : List Entry
  pub finished : IsFinished order.actor order.command own
  pub at_once : IsAtOnce order.actor own
  pub memory : FoundMemory own
  pub grown : next ≡ grown_by o own

-- one command more was stopped by a full history, and memory sufficed
pub record WasStopped (o : Opened) (order : Order) (next : Opened) : Type 0 where
  pub own : List Entry
  pub stopped : IsStopped order.actor order.command own o.most
  pub memory : FoundMemory own
  pub grown : next ≡ grown_by o own
  pub full : IsFull next

-- the desk has handled all that the office's history recalls
pub record IsCaughtUp (desk : Desk) (o : Opened) : Type 0 where
  pub kept : KeepsUp desk o
  pub all : HasHandledAll desk o

-- one command more was carried out and its recalled permits were applied for again, and memory sufficed
pub record HasReroutedOne (o : Opened) (caller : ℕ) (order : Order) (next : Opened) : Type 0 where
  pub own : List Entry
  pub renewals : List Entry
  pub finished : IsFinished order.actor order.command own
  pub renewed : AreRenewed o.opening caller (o.history ++ own) (recalled_in own) renewals
  pub memory : FoundMemory (own ++ renewals)
  pub grown : next ≡ grown_by o (own ++ renewals)

-- one command more, or what was to be applied for again behind it, was cut short by a full history, and memory sufficed
pub record WasCutShort (o : Opened) (caller : ℕ) (order : Order) (next : Opened) : Type 0 where
  pub last : List Entry
  pub cut : IsCutShort o.opening caller o.most o.history order last
  pub memory : FoundMemory last
  pub grown : next ≡ grown_by o last
  pub full : IsFull next

-- the office was asked these commands, and again for all that they recalled, and nothing else
pub record HasRerouted (o now : Opened) (caller : ℕ) (orders : List Order) : Type 0 where
  pub same : now ≡ record o { history = now.history }
  pub commands : CarriesOutAgain o.opening caller [] orders now.history
  pub memory : FoundMemory now.history

-- the office was asked the first of these commands, and again for all that they recalled, and then one that was cut short by a
-- full history
pub record HasStopped (o now : Opened) (caller : ℕ) (orders : List Order) : Type 0 where
  pub same : now ≡ record o { history = now.history }
  pub commands : StopsWithin o.opening caller o.most orders now.history
  pub memory : FoundMemory now.history
  pub full : IsFull now

-- with this command alone, where memory suffices, the history has more entries than it may
abbrev pub IsLongAlone : Opened → Order → Type 0
IsLongAlone o order =
    (own : List Entry) → IsFinished order.actor order.command own → IsLegalFrom o.base (machine_in o) own
    → o.most < length (o.history ++ own)

-- With this command and the applications for what it recalls, where memory suffices, the history has more entries than it may.
abbrev pub IsLongWith : Opened → ℕ → Order → Type 0
IsLongWith o caller order =
    (own renewals : List Entry) → IsFinished order.actor order.command own
    → AreRenewed o.opening caller (o.history ++ own) (recalled_in own) renewals
    → IsLegal o.base o.opening (o.history ++ (own ++ renewals)) → o.most < length (o.history ++ (own ++ renewals))

-- With these commands, the history of an office of this base that opens on this day has more entries than this.
abbrev pub AreLong : BaseLists → Day → ℕ → ℕ → List Order → Type 0
AreLong base day most caller orders =
    (history : List Entry) → IsLegal base day history → CarriesOutAgain day caller [] orders history → FoundMemory history
    → most < length history

-- the room of an office for all that so many commands make: at least one place, and no more than an office may have
abbrev pub room_for : ℕ → ℕ
room_for commands = max 1 (min 1000000 (most_made commands))

-- the refusal of a day for which its desk refuses
abbrev pub serving_refusal : RerouteRefusal → ServingRefusal
serving_refusal (desk.Full entries) = TooMany
serving_refusal desk.NoMemory = NoMemory

-- The cause of a refusal: the day file is too long for an office. Want of memory may come wherever memory is taken.
abbrev pub IsServingCause : DayParts → ServingRefusal → Type 0
IsServingCause file TooMany = IsTooLong file
IsServingCause file NoMemory = Unit {0}
