-- The headline: what the text is that the program writes for a day file, sentence by sentence, a field each.
--
-- It holds for every day file, however the threads take turns, wherever a run of `day` ends with status 0: then the bytes
-- that were read and the text that was written keep all of these. What it asks beside that: the source tells its bytes and
-- the sink what it holds, and the call returned, since an actor may wait for a turn.
use Rattle.std.specs.Prelude.{◌≡◌, ◌≢◌, ◌<◌, ℕ, List, length, All, Ok}
use Rattle.day_text.specs.Days.{DayParts, day_of}
use Rattle.day_text.specs.Scripts.{script_of}
use Rattle.journal_text.specs.Journals.{journal_of}
use Rattle.office_words.specs.declared.entry.Entry.{Entry}
use Rattle.office_words.specs.declared.entry.Reply.TheVariants as reply
use Rattle.office_core.specs.Costs.{Counts}
use Rattle.office_core.specs.Machine.{IsLegal, entries_by}
use Rattle.office_core.specs.Promises.{KeepsPromises}
use Rattle.analyst_pool.specs.Unfolds.{AreFinished}

-- The headline: the bytes are a day file, and the text is the journal of a history that keeps all of these.
pub record Headline (bytes text : List ℕ) : Type 0 where
  -- the bytes are a day file: its roads and trucks, its day, its actors and their commands
  pub file : DayParts
  pub read : day_of bytes ≡ Ok file
  -- the text is the journal of one history, a list of calls and their replies
  pub history : List Entry
  pub journal : text ≡ journal_of history
  -- the history is legal: from an office that opens on the file's day, over its roads and trucks, each entry is one step of
  -- the office of one thread, from what the entries before it leave
  pub legal : IsLegal file.base file.day history
  -- it holds each actor's commands once, in the order of the file: the actor's own entries are those of its finished
  -- commands, one after another
  pub commands : (actor : ℕ) → actor < length file.actors
      → AreFinished actor (script_of actor file.commands) (entries_by actor history)
  -- nobody else has an entry in it
  pub callers : All (λ e. e.caller < length file.actors) history
  -- no reply in it is that memory was wanting
  pub memory : All (λ e. e.reply ≢ reply.NoMemory) history
  -- it keeps the promises of every legal history, which have a page of their own: every issued permit's whole route met the
  -- limits of the current version it names, spans by peak moment and end shear over all placements (`issued`); every refusal
  -- names a failing limit (`refused`); each posting recalls exactly the permits in force that then fail (`posted`)
  pub promises : KeepsPromises file.base file.day history

-- The headline, with what was tested under the lock. The one counter of the office's turns stood at 0 before the first entry and
-- was read behind each: in the turn of each entry of the written history it rose by no more than the call of the entry may cost.
pub record CountedHeadline (readings : List ℕ) (bytes text : List ℕ) : Type 0 where
  pub headline : Headline bytes text
  pub counted : Counts headline.file.base headline.file.day headline.history readings
