-- How bytes are judged that are to be the journal of all of a day, with the day file behind it, whatever goes on then.
use Rattle.std.specs.Prelude.{◌≡◌, ◌⊎◌, ◌≤◌, ◌<◌, ◌+◌, ◌++◌, ◌∷◌, [], ℕ, List, length, take, codes, Option, Some, Result, Ok, Err}
use Rattle.std.specs.Fmt.{decimal}
use Rattle.trip_analysis.specs.Bases.{BaseLists}
use Rattle.office_words.specs.declared.entry.Entry.{Entry}
use Rattle.office_core.specs.Machine.{IsLegal}
use Rattle.journal_audit.specs.declared.verdict.Verdict.{Verdict}
use Rattle.journal_audit.specs.declared.verdict.Verdict.TheVariants.{Bad, Legal}
use Rattle.journal_reader.specs.Cuts.{IsCutBehindEnd}
use Rattle.journal_reader.specs.Journals.{IsBadLine, IsJournalOf}
use Rattle.day_text.specs.CommandRows.{IsRowOfCommand}
use Rattle.day_text.specs.Days.{DayParts, day_of}
use Rattle.day_text.specs.Records.{Row, rows_of}
use Rattle.day_text.specs.declared.refusal.Cause.{Cause}
use Rattle.journal_whole.specs.Wholes.{IsWholeness}
use Rattle.journal_whole.specs.declared.wholeness.Wholeness.{Wholeness}
use Rattle.journal_whole.specs.declared.wholeness.Wholeness.TheVariants.{Lacks, Strays, Whole}
use Rattle.day_run.specs.Served.{IsServed}
use Rattle.permit_program.specs.Audit.{answer_to_entry, answer_to_line}
use Rattle.permit_program.specs.Command.{Answer, answer_to}
use Rattle.permit_program.specs.Runs.{bytes_line, most_bytes}

-- how many bytes a journal has at the most that the clerk takes
abbrev pub most_journal : ℕ
most_journal = 268435456

-- neither the journal nor the day file behind it has too many bytes
pub record HasSizes (journal behind : List ℕ) : Type 0 where
  pub journal_fits : length journal ≤ most_journal
  pub day_fits : length behind ≤ most_bytes

-- how too many bytes are answered
abbrev pub answer_to_bytes : Answer
answer_to_bytes = record { status = 6; line = bytes_line }

-- the history is one that an office can have: legal for its base and its day, and of at most 1,000,000 entries
pub record IsOfficeHistory (base : BaseLists) (day : List ℕ) (es : List Entry) : Type 0 where
  pub legal : IsLegal base day es
  pub room : length es ≤ 1000000

-- the first n entries are such a history, and the first n + 1 are none: so n is the least such number
pub record IsFirstOutside (base : BaseLists) (day : List ℕ) (es : List Entry) (n : ℕ) : Type 0 where
  pub there : n < length es
  pub before : IsOfficeHistory base day (take n es)
  pub outside : IsOfficeHistory base day (take (n + 1) es) → ⊥

-- what a verdict says of a history, however long it is
abbrev pub IsOfficeVerdict : BaseLists → List ℕ → List Entry → Verdict → Type 0
IsOfficeVerdict base day es Legal = IsOfficeHistory base day es
IsOfficeVerdict base day es (Bad n) = IsFirstOutside base day es n

-- how a history is answered that strays: by the first entry that may not stand in a whole one, which the line counts from 1
abbrev pub answer_to_stray : ℕ → Answer
answer_to_stray n = record { status = 9; line = codes "not whole: entry " ++ (decimal (n + 1) ++ (10 ∷ [])) }

-- how a history is answered that lacks commands: by the row of the record of the first that it does not finish
abbrev pub answer_to_lack : ℕ → Answer
answer_to_lack row = record { status = 9; line = codes "not whole: record " ++ (decimal row ++ (10 ∷ [])) }

-- how it goes on with a whole history of a day file: the judgement that this comes to
abbrev pub GoesOn : Type 1
GoesOn = DayParts → List Entry → Option Answer → Type 0

-- the judgement of a history by what is said of it and of the commands of a day file of these records; a whole one goes on
abbrev pub JudgesWholeness : List Row → (Option Answer → Type 0) → Wholeness → Option Answer → Type 0
JudgesWholeness rows Goes Whole judgement = Goes judgement
JudgesWholeness rows Goes (Strays n) judgement = Some (answer_to_stray n) ≡ judgement
JudgesWholeness rows Goes (Lacks k) judgement = (row : ℕ) × IsRowOfCommand rows k row × (Some (answer_to_lack row) ≡ judgement)

-- the judgement of a history that an office can have, by the commands of the day file
abbrev pub JudgesCommands : GoesOn → List Row → DayParts → List Entry → Option Answer → Type 0
JudgesCommands Goes rows file history judgement =
    (w : Wholeness) × IsWholeness (length file.actors) file.commands history w × JudgesWholeness rows (Goes file history) w judgement

-- the judgement of a history by a verdict on it
abbrev pub JudgesEntries : GoesOn → List Row → DayParts → List Entry → Verdict → Option Answer → Type 0
JudgesEntries Goes rows file history Legal judgement = JudgesCommands Goes rows file history judgement
JudgesEntries Goes rows file history (Bad n) judgement = Some (answer_to_entry n) ≡ judgement

-- the judgement of a history by what the bytes behind the journal are: a day file of these records, or refused as one
abbrev pub JudgesHistory : GoesOn → List Row → List Entry → Result DayParts (ℕ × Cause) → Option Answer → Type 0
JudgesHistory Goes rows history (Ok file) judgement =
    (verdict : Verdict) × IsOfficeVerdict file.base file.day history verdict × JudgesEntries Goes rows file history verdict judgement
JudgesHistory Goes rows history (Err refused) judgement = Some (answer_to refused) ≡ judgement

-- the judgement of a text and of what stands behind it: the text is no journal, or that of a history
abbrev pub JudgesParts : GoesOn → List ℕ → List ℕ → Option Answer → Type 0
JudgesParts Goes journal behind judgement =
    ((row : ℕ) × IsBadLine journal row × (Some (answer_to_line row) ≡ judgement))
    ⊎ ((history : List Entry) × IsJournalOf history journal × JudgesHistory Goes (rows_of behind) history (day_of behind) judgement)

-- the judgement of both by their sizes first
abbrev pub JudgesSizes : GoesOn → List ℕ → List ℕ → Option Answer → Type 0
JudgesSizes Goes journal behind judgement =
    ((HasSizes journal behind → ⊥) × (Some answer_to_bytes ≡ judgement))
    ⊎ (HasSizes journal behind × JudgesParts Goes journal behind judgement)

-- the judgement of bytes, which are cut behind the first line that begins with `end `
pub record JudgesWhole (Goes : GoesOn) (bytes : List ℕ) (judgement : Option Answer) : Type 0 where
  pub journal : List ℕ
  pub behind : List ℕ
  pub cut : IsCutBehindEnd bytes journal behind
  pub judged : JudgesSizes Goes journal behind judgement

-- The bytes are a journal and behind it a day file; the history of the journal serves the file as the history of a day does, so that
-- a day of this file may have had it: it is legal and keeps every promise, it holds each actor's commands once in their order and
-- nobody else's entries, and no answer in it is that memory was wanting.
pub record IsWholeJournal (bytes : List ℕ) : Type 0 where
  pub journal : List ℕ
  pub behind : List ℕ
  pub cut : IsCutBehindEnd bytes journal behind
  pub sizes : HasSizes journal behind
  pub history : List Entry
  pub read : IsJournalOf history journal
  pub file : DayParts
  pub day_read : day_of behind ≡ Ok file
  pub served : IsServed file history
