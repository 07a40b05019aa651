-- What a journal says of its day: it is the journal of one history, and reading it back gives that history.
use Rattle.std.specs.Prelude.{◌≡◌, ◌⊎◌, ℕ, List, Result, Ok, Err}
use Rattle.office_words.specs.declared.entry.Entry.{Entry}
use Rattle.journal_text.specs.Journals.{journal_of}
use Rattle.journal_reader.specs.Fits.{FitsHistory}
use Rattle.journal_reader.specs.Journals.{IsJournalRead}
use Rattle.journal_reader.specs.declared.refusal.JournalRefusal.{JournalRefusal}
use Rattle.journal_reader.specs.declared.refusal.JournalRefusal.TheVariants.{NoMemory}
use Rattle.permit_program.specs.Headline.{Headline}
use Rattle.program_laws.specs.Histories.{IsOfDay}

-- a history of a day file is one that a journal can be read as
abbrev pub DayHistoriesFit : Type 0
DayHistoriesFit = (bytes : List ℕ) (history : List Entry) → IsOfDay bytes history → FitsHistory history

-- what is read of its journal is that history, unless there is no memory
abbrev pub DayJournalsReadBack : Type 0
DayJournalsReadBack =
    (bytes : List ℕ) (history : List Entry) (answer : Result (List Entry) JournalRefusal) → IsOfDay bytes history
    → IsJournalRead (journal_of history) answer → (answer ≡ Ok history) ⊎ (answer ≡ Err NoMemory)

-- two histories of day files that have one journal are one
abbrev pub DayJournalsHaveOneHistory : Type 0
DayJournalsHaveOneHistory =
    (bytes other : List ℕ) (history second : List Entry) → IsOfDay bytes history → IsOfDay other second
    → journal_of history ≡ journal_of second → history ≡ second

-- the history behind a journal that was written for a day file is one that a journal can be read as
abbrev pub HeadlineFits : Type 0
HeadlineFits = (bytes text : List ℕ) (h : Headline bytes text) → FitsHistory h.history

-- what is read of that journal is that history, unless there is no memory
abbrev pub HeadlineReadsBack : Type 0
HeadlineReadsBack =
    (bytes text : List ℕ) (h : Headline bytes text) (answer : Result (List Entry) JournalRefusal)
    → IsJournalRead text answer → (answer ≡ Ok h.history) ⊎ (answer ≡ Err NoMemory)

-- one text is written for one history, whatever the day files are
abbrev pub TextHasOneHistory : Type 0
TextHasOneHistory =
    (bytes other text : List ℕ) (h : Headline bytes text) (k : Headline other text) → h.history ≡ k.history
