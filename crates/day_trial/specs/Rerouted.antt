-- The history of an office after a day file's commands, where each recalled permit is applied for again.
use Rattle.std.specs.Prelude.{◌≡◌, ◌≢◌, ◌+◌, ◌*◌, ◌<◌, ◌≤◌, ◌++◌, [], ◌∷◌, ℕ, List, All, Some, length}
use Rattle.road_graph.specs.Roads.{IsRoads}
use Rattle.trip_analysis.specs.declared.application.Application.{Application}
use Rattle.day_text.specs.declared.orders.Order.{Order}
use Rattle.day_text.specs.Days.{DayParts}
use Rattle.office_words.specs.declared.entry.Call.TheVariants as call
use Rattle.office_words.specs.declared.entry.Entry.{Entry}
use Rattle.office_words.specs.declared.entry.Reply.TheVariants as reply
use Rattle.office_core.specs.Happened.{Day, History, Numbers}
use Rattle.office_core.specs.Machine.{IsLegal}
use Rattle.office_core.specs.Promises.{KeepsPromises}
use Rattle.reroute_desk.specs.Issues.{recalled_in}
use Rattle.analyst_pool.specs.Unfolds.{IsFinished, IsStopped}
use Rattle.reroute_desk.specs.Replacements.{again_behind}

-- behind these entries, the next asks the office to find itself what the permit of a number needs once more, by this caller
pub record IsRenewed (opening : Day) (caller : ℕ) (front : History) (number : ℕ) (e : Entry) : Type 0 where
  pub trip : Application
  pub is_again : again_behind opening front number ≡ Some trip
  pub by : e.caller ≡ caller
  pub asked : e.call ≡ call.Held trip

-- Behind these entries, all that follow apply again for the permits of these numbers, by this caller: one entry for each, in
-- order.
abbrev pub AreRenewed : Day → ℕ → History → Numbers → List Entry → Type 0
AreRenewed opening caller front [] es = es ≡ []
AreRenewed opening caller front (number ∷ numbers) [] = ⊥
AreRenewed opening caller front (number ∷ numbers) (e ∷ es) =
    IsRenewed opening caller front number e × AreRenewed opening caller (front ++ e ∷ []) numbers es

-- Behind these entries, the first of some commands was carried out by its actor, then this caller applied again for the permits
-- that it recalled, and the others follow.
pub record CarriesOutFirstAgain (opening : Day) (caller : ℕ) (front : History) (order : Order) (rest : History → List Entry → Type 0) (es : List Entry) : Type 0 where
  pub own : List Entry
  pub renewals : List Entry
  pub back : List Entry
  pub finished : IsFinished order.actor order.command own
  pub renewed : AreRenewed opening caller (front ++ own) (recalled_in own) renewals
  pub behind : rest (front ++ (own ++ renewals)) back
  pub whole : es ≡ (own ++ renewals) ++ back

-- Behind these entries, all that follow are those of these commands, carried out one after another, each by its own actor; and
-- behind the entries of each command stand those by which this caller applies again for the permits that it recalled.
abbrev pub CarriesOutAgain : Day → ℕ → History → List Order → List Entry → Type 0
CarriesOutAgain opening caller front [] es = es ≡ []
CarriesOutAgain opening caller front (order ∷ orders) es =
    CarriesOutFirstAgain opening caller front order (λ ahead back. CarriesOutAgain opening caller ahead orders back) es

-- The history is one of an office of the file's roads and trucks that opened on its day, and keeps every promise of such an
-- office; all its entries are those of the file's commands, carried out one after another in the order of the file, each by
-- its own actor, and behind each command those by which the caller whose number is the count of actors applies again for the
-- permits that it recalled; and no answer is that memory was wanting.
pub record IsRerouted (file : DayParts) (history : List Entry) : Type 0 where
  pub legal : IsLegal file.base file.day history
  pub promises : KeepsPromises file.base file.day history
  pub commands : CarriesOutAgain file.day (length file.actors) [] file.commands history
  pub memory : All (λ e. e.reply ≢ reply.NoMemory) history

-- Behind these entries, a command was finished, and this caller applied again for the first of the permits that it recalled. One
-- of them, at least, is left, for which it has not applied again.
pub record OwesRenewals (opening : Day) (caller : ℕ) (front : History) (order : Order) (es : List Entry) : Type 0 where
  pub own : List Entry
  pub renewals : List Entry
  pub again : Numbers
  pub next : ℕ
  pub left : Numbers
  pub finished : IsFinished order.actor order.command own
  pub recalled : recalled_in own ≡ again ++ next ∷ left
  pub renewed : AreRenewed opening caller (front ++ own) again renewals
  pub whole : es ≡ own ++ renewals

-- behind these entries, a command was begun, and did not come to its end in a history of so many entries
pub data IsCutShort (opening : Day) (caller most : ℕ) (front : History) (order : Order) (es : List Entry) : Type 0 where
  -- it was stopped before its own last entry
  stopped : IsStopped order.actor order.command es most → IsCutShort opening caller most front order es
  -- it is finished, and a permit that it recalled is left
  owing : OwesRenewals opening caller front order es → IsCutShort opening caller most front order es

-- All entries are those of the first of these commands, carried out as above, and behind them those of the command that comes
-- next, which was cut short.
pub record StopsWithin (opening : Day) (caller most : ℕ) (orders : List Order) (es : List Entry) : Type 0 where
  pub done : List Order
  pub next : Order
  pub left : List Order
  pub orders_are : orders ≡ done ++ next ∷ left
  pub ahead : List Entry
  pub last : List Entry
  pub carried : CarriesOutAgain opening caller [] done ahead
  pub cut : IsCutShort opening caller most ahead next last
  pub whole : es ≡ ahead ++ last

-- The history is one of an office of the file's roads and trucks that opened on its day, and keeps every promise of such an
-- office; all its entries are those of the first of the file's commands, carried out as above, and of the next one, which was cut
-- short; no answer is that memory was wanting; and it has 1,000,000 entries, the most that an office may have.
pub record IsStoppedFull (file : DayParts) (history : List Entry) : Type 0 where
  pub legal : IsLegal file.base file.day history
  pub promises : KeepsPromises file.base file.day history
  pub commands : StopsWithin file.day (length file.actors) 1000000 file.commands history
  pub memory : All (λ e. e.reply ≢ reply.NoMemory) history
  pub full : length history ≡ 1000000

-- A day file is too long: this history of its commands has as many entries as an office may have while a command is still to be
-- carried out or a permit to be applied for again; and every history in which all is done has more.
pub record IsTooLong (file : DayParts) : Type 0 where
  pub history : List Entry
  pub stopped : IsStoppedFull file history
  pub each : (whole : List Entry) → IsRerouted file whole → 1000000 < length whole

-- The most entries that so many commands make: two for each, and for each an application for every permit that it may recall, of
-- which there are no more than commands.
abbrev pub most_made : ℕ → ℕ
most_made commands = commands * commands + 2 * commands

-- no such history of a day file has more entries than its commands make at most
abbrev pub ReroutedHistoriesAreShort : Type 0
ReroutedHistoriesAreShort =
    (file : DayParts) (history : List Entry) → IsRoads file.base.roads → IsRerouted file history
    → length history ≤ most_made (length file.commands)

-- no day file of up to 999 commands is too long
abbrev pub FewCommandsAreNotTooLong : Type 0
FewCommandsAreNotTooLong =
    (file : DayParts) → IsRoads file.base.roads → length file.commands ≤ 999 → IsTooLong file → ⊥

-- there is no other such history of a day file
abbrev pub ReroutedHistoriesAreOne : Type 0
ReroutedHistoriesAreOne =
    (file : DayParts) (history other : List Entry) → IsRoads file.base.roads → IsRerouted file history → IsRerouted file other → other ≡ history
