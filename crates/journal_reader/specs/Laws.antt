-- Laws of journals.
use Rattle.std.specs.Prelude.{◌≡◌, ◌≢◌, ◌≤◌, ◌*◌, ◌⊎◌, List, [], ◌++◌, ℕ, length, Result, Ok, Err}
use Rattle.office_words.specs.declared.entry.Entry.{Entry}
use Rattle.journal_text.specs.declared.format.Format.{Format}
use Rattle.journal_text.specs.Journals.{journal_in, journal_of}
use Rattle.journal_reader.specs.Formats.{HasJournalIn}
use Rattle.journal_reader.specs.Fits.{FitsHistory}
use Rattle.journal_reader.specs.Journals.{IsJournalRead, IsJournalOf}
use Rattle.journal_reader.specs.declared.refusal.JournalRefusal.{JournalRefusal}
use Rattle.journal_reader.specs.declared.refusal.JournalRefusal.TheVariants.{NoMemory}

-- a text is the journal of one history at most, in whatever formats it is read
abbrev pub OneHistory : Type 0
OneHistory = (h k : List Entry) (text : List ℕ) → IsJournalOf h text → IsJournalOf k text → h ≡ k

-- no journal is a proper prefix of another, whatever their formats are
abbrev pub NoProperPrefix : Type 0
NoProperPrefix =
    (f g : Format) (h k : List Entry) (more : List ℕ) → HasJournalIn f h → HasJournalIn g k
    → journal_in g k ≡ journal_in f h ++ more → more ≡ []

-- an answer other than want of memory is determined by the text
abbrev pub OneAnswer : Type 0
OneAnswer = (text : List ℕ) (a b : Result (List Entry) JournalRefusal)
    → IsJournalRead text a → IsJournalRead text b → a ≢ Err NoMemory → b ≢ Err NoMemory → a ≡ b

-- what is printed is read back, unless there is no memory
abbrev pub PrintedIsRead : Type 0
PrintedIsRead = (history : List Entry) (answer : Result (List Entry) JournalRefusal)
    → FitsHistory history → IsJournalRead (journal_of history) answer → (answer ≡ Ok history) ⊎ (answer ≡ Err NoMemory)

-- a journal has at least five bytes for each entry
abbrev pub JournalsAreLong : Type 0
JournalsAreLong = (h : List Entry) (text : List ℕ) → IsJournalOf h text → 5 * length h ≤ length text
