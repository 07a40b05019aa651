-- The history of an office after a day file's commands, carried out one after another.
use Rattle.std.specs.Prelude.{◌≡◌, ◌≢◌, ◌++◌, [], ◌∷◌, List, All}
use Rattle.road_graph.specs.Roads.{IsRoads}
use Rattle.day_text.specs.declared.orders.Order.{Order}
use Rattle.day_text.specs.Days.{DayParts}
use Rattle.office_words.specs.declared.entry.Entry.{Entry}
use Rattle.office_words.specs.declared.entry.Reply.TheVariants as reply
use Rattle.office_core.specs.Machine.{IsLegal}
use Rattle.office_core.specs.Promises.{KeepsPromises}
use Rattle.analyst_pool.specs.Unfolds.{IsFinished}

-- the first of some commands was carried out by these entries, and the others by those behind them
pub record CarriesOutFirst (order : Order) (rest : List Entry → Type 0) (history : List Entry) : Type 0 where
  pub front : List Entry
  pub back : List Entry
  pub finished : IsFinished order.actor order.command front
  pub behind : rest back
  pub whole : history ≡ front ++ back

-- all entries of the history are those of these commands, carried out one after another, each by its own actor
abbrev pub CarriesOut : List Order → List Entry → Type 0
CarriesOut [] history = history ≡ []
CarriesOut (order ∷ orders) history = CarriesOutFirst order (CarriesOut orders) history

-- The history is one of an office of the file's roads and trucks that opened on its day, and keeps every promise of such an
-- office; all its entries are those of the file's commands, carried out one after another in the order of the file, each by
-- its own actor; and no answer is that memory was wanting.
pub record IsSerial (file : DayParts) (history : List Entry) : Type 0 where
  pub legal : IsLegal file.base file.day history
  pub promises : KeepsPromises file.base file.day history
  pub commands : CarriesOut file.commands history
  pub memory : All (λ e. e.reply ≢ reply.NoMemory) history

-- there is no other such history of a day file
abbrev pub SerialHistoriesAreOne : Type 0
SerialHistoriesAreOne =
    (file : DayParts) (history other : List Entry) → IsRoads file.base.roads → IsSerial file history → IsSerial file other → other ≡ history
