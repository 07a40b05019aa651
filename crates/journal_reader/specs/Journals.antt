-- Which texts are journals, and which line of a text is bad.
use Rattle.std.specs.Prelude.{◌≡◌, ◌≢◌, ◌⊎◌, ℕ, ◌+◌, List, ◌++◌, length, flat_map, Result, Ok, Err}
use Rattle.std.specs.List.{AllByRecursion}
use Rattle.office_words.specs.declared.entry.Entry.{Entry}
use Rattle.journal_text.specs.declared.format.Format.{Format}
use Rattle.journal_text.specs.Journals.{ended, first_line, journal_in, line_of}
use Rattle.journal_reader.specs.Formats.{HasJournalIn}
use Rattle.journal_reader.specs.declared.refusal.JournalRefusal.{JournalRefusal}
use Rattle.journal_reader.specs.declared.refusal.JournalRefusal.TheVariants as refusal

-- the text is the journal of this history, in this format
abbrev pub IsJournalIn : Format → List Entry → List ℕ → Type 0
IsJournalIn format history text = HasJournalIn format history × (text ≡ journal_in format history)

-- the text is the journal of this history, in some format
abbrev pub IsJournalOf : List Entry → List ℕ → Type 0
IsJournalOf history text = (format : Format) × IsJournalIn format history text

-- the text is the journal of no history, in any format
abbrev pub IsNoJournal : List ℕ → Type 0
IsNoJournal text = (history : List Entry) → IsJournalOf history text → ⊥

-- some journal, in some format, begins with this text
abbrev pub BeginsAJournal : List ℕ → Type 0
BeginsAJournal front = (history : List Entry) × (more : List ℕ) × IsJournalOf history (front ++ more)

-- a text that holds no line feed
abbrev pub IsLine : List ℕ → Type 0
IsLine text = AllByRecursion (λ b. b ≢ 10) text

-- the text of lines, each with its line feed
abbrev pub lines_text : List (List ℕ) → List ℕ
lines_text lines = flat_map ended lines

-- the lines of some entries, each with its line feed
abbrev pub lines_of : List Entry → List ℕ
lines_of history = flat_map (λ e. ended (line_of e)) history

-- the first line of a journal and the lines of some entries
abbrev pub front_of : Format → List Entry → List ℕ
front_of format history = ended (first_line format) ++ lines_of history

-- the line is the first one of a journal, in some format
abbrev pub IsFirstLine : List ℕ → Type 0
IsFirstLine line = (format : Format) × (line ≡ first_line format)

-- after the lines of `front` comes a last line without its line feed, or none, and all is no journal; or a line with which
-- no journal goes on
abbrev pub IsBadNext : List ℕ → List ℕ → Type 0
IsBadNext front rest =
    (IsLine rest × IsNoJournal (front ++ rest))
    ⊎ ((line more : List ℕ) × IsLine line × (rest ≡ ended line ++ more) × (BeginsAJournal (front ++ ended line) → ⊥))

-- the first line of a text, counted from 1, such that no journal begins with the lines up to it and with it
pub record IsBadLine (text : List ℕ) (row : ℕ) : Type 0 where
  pub before : List (List ℕ)
  pub rest : List ℕ
  pub lines : AllByRecursion IsLine before
  pub whole : text ≡ lines_text before ++ rest
  pub counted : row ≡ length before + 1
  pub good : BeginsAJournal (lines_text before)
  pub bad : IsBadNext (lines_text before) rest

-- why a text is refused
abbrev pub IsWhy : List ℕ → JournalRefusal → Type 0
IsWhy text (refusal.BadLine row) = IsBadLine text row
IsWhy text refusal.NoMemory = Unit {0}

-- the history that the text is the journal of, or why it is refused
abbrev pub IsJournalRead : List ℕ → Result (List Entry) JournalRefusal → Type 0
IsJournalRead text (Ok history) = IsJournalOf history text
IsJournalRead text (Err why) = IsWhy text why
