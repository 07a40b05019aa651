-- The history of an office in which the actors of a day file carried out their commands.
use Rattle.std.specs.Prelude.{◌≡◌, ◌≢◌, ◌<◌, ◌≤◌, ℕ, List, length, All}
use Rattle.road_graph.specs.Roads.{IsRoads}
use Rattle.day_text.specs.Days.{DayParts}
use Rattle.day_text.specs.Scripts.{script_of}
use Rattle.office_words.specs.declared.entry.Entry.{Entry}
use Rattle.office_words.specs.declared.entry.Reply.TheVariants as reply
use Rattle.office_core.specs.Machine.{IsLegal, entries_by}
use Rattle.office_core.specs.Promises.{KeepsPromises}
use Rattle.analyst_pool.specs.Unfolds.{AreFinished}

-- The history is one of an office of the file's roads and trucks that opened on its day, and keeps every promise of such an
-- office. The entries of each actor are those of its finished commands, one after another in the order of the file; nobody
-- else has an entry; and no answer is that memory was wanting.
pub record IsServed (file : DayParts) (history : List Entry) : Type 0 where
  pub legal : IsLegal file.base file.day history
  pub promises : KeepsPromises file.base file.day history
  pub commands : (actor : ℕ) → actor < length file.actors
      → AreFinished actor (script_of actor file.commands) (entries_by actor history)
  pub callers : All (λ e. e.caller < length file.actors) history
  pub memory : All (λ e. e.reply ≢ reply.NoMemory) history

-- no other history serves a day file of at most one actor
abbrev pub LoneActorsAreOne : Type 0
LoneActorsAreOne = (file : DayParts) (history other : List Entry) → IsRoads file.base.roads
    → length file.actors ≤ 1 → IsServed file history → IsServed file other → other ≡ history
