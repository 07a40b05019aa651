-- The histories of a day file.
use Rattle.std.specs.Prelude.{◌≡◌, ◌<◌, ℕ, List, length, All, Ok}
use Rattle.day_text.specs.Days.{DayParts, day_of}
use Rattle.day_text.specs.Scripts.{script_of}
use Rattle.office_words.specs.declared.entry.Entry.{Entry}
use Rattle.office_core.specs.Machine.{IsLegal, entries_by}
use Rattle.analyst_pool.specs.Unfolds.{AreFinished}

-- the history is one of the day file that these bytes are: it is legal from an office that opens on the file's day, over its
-- roads and trucks. Each actor's own entries are those of its finished commands, and nobody else has an entry
pub record IsOfDay (bytes : List ℕ) (history : List Entry) : Type 0 where
  pub file : DayParts
  pub read : day_of bytes ≡ Ok file
  pub legal : IsLegal file.base file.day history
  pub commands : (actor : ℕ) → actor < length file.actors
      → AreFinished actor (script_of actor file.commands) (entries_by actor history)
  pub callers : All (λ e. e.caller < length file.actors) history
