-- `audit`: a journal is judged against the day file that stands behind it.
use Rattle.std.specs.Prelude.{◌≡◌, ◌⊎◌, ◌+◌, ◌++◌, ◌∷◌, [], ℕ, true, List, length, codes, Option, Some, None, Result, Ok, Err}
use Rattle.std.specs.Fmt.{decimal}
use Rattle.day_text.specs.declared.refusal.Cause.{Cause}
use Rattle.day_text.specs.Days.{DayParts, day_of}
use Rattle.office_words.specs.declared.entry.Entry.{Entry}
use Rattle.office_core.specs.Machine.{IsLegal}
use Rattle.journal_reader.specs.Cuts.{IsCutBehindEnd}
use Rattle.journal_reader.specs.Journals.{IsBadLine, IsJournalOf}
use Rattle.journal_reader.specs.declared.refusal.JournalRefusal.{JournalRefusal}
use Rattle.journal_reader.specs.declared.refusal.JournalRefusal.TheVariants as text
use Rattle.journal_audit.specs.declared.verdict.Verdict.{Verdict}
use Rattle.journal_audit.specs.declared.verdict.Verdict.TheVariants.{Bad, Legal}
use Rattle.journal_audit.specs.Verdicts.{IsVerdict}
use Rattle.std.specs.String.{string_bytes}
use Rattle.permit_program.specs.Command.{Answer, Command, answer_to}
use Rattle.permit_program.specs.declared.refusal.Refusal.{Refusal}
use Rattle.permit_program.specs.declared.refusal.Refusal.TheVariants.{NoMemory, Refused}

-- how a text is answered that is no journal: by the first line with which no journal goes on, counted from 1
abbrev pub answer_to_line : ℕ → Answer
answer_to_line row = record { status = 5; line = codes "refused: line " ++ (decimal row ++ (10 ∷ [])) }

-- a text that is no journal is answered in this way, unless memory was wanting
abbrev pub IsAnswerToText : JournalRefusal → Refusal → Type 0
IsAnswerToText (text.BadLine row) (Refused status line) = answer_to_line row ≡ record { status = status; line = string_bytes line }
IsAnswerToText text.NoMemory (Refused status line) = ⊥
IsAnswerToText refused NoMemory = Unit {0}

-- how a history is answered that is not legal: by its first bad entry, which the line counts from 1
abbrev pub answer_to_entry : ℕ → Answer
answer_to_entry n = record { status = 9; line = codes "not legal: entry " ++ (decimal (n + 1) ++ (10 ∷ [])) }

-- how a verdict is answered: a legal history is not refused, and another by its first bad entry
abbrev pub answer_to_verdict : Verdict → Option Answer
answer_to_verdict Legal = None
answer_to_verdict (Bad n) = Some (answer_to_entry n)

-- the judgement of a history, by what the bytes behind the journal are: a day file, or refused as one
abbrev pub JudgesHistory : List Entry → Result DayParts (ℕ × Cause) → Option Answer → Type 0
JudgesHistory history (Ok file) judgement =
    (verdict : Verdict) × IsVerdict file.base file.day history verdict × (answer_to_verdict verdict ≡ judgement)
JudgesHistory history (Err refused) judgement = Some (answer_to refused) ≡ judgement

-- the judgement of a text and of what stands behind it: the text is no journal, or that of a history
abbrev pub JudgesParts : List ℕ → List ℕ → Option Answer → Type 0
JudgesParts journal behind judgement =
    ((row : ℕ) × IsBadLine journal row × (Some (answer_to_line row) ≡ judgement))
    ⊎ ((history : List Entry) × IsJournalOf history journal × JudgesHistory history (day_of behind) judgement)

-- the judgement of bytes, which are cut behind the first line that begins with `end `
pub record JudgesAudit (bytes : List ℕ) (judgement : Option Answer) : Type 0 where
  pub journal : List ℕ
  pub behind : List ℕ
  pub cut : IsCutBehindEnd bytes journal behind
  pub judged : JudgesParts journal behind judgement

-- the line that says so of a legal history
abbrev pub legal_history_line : ℕ → List ℕ
legal_history_line count = codes "legal " ++ (decimal count ++ (10 ∷ []))

-- The promise: the bytes are a journal and behind it a day file; the history of the journal is one of an office about the file's
-- roads and trucks that opened on its day; and the text says so, with the number of entries. Whether the history holds the
-- commands of the file is not promised.
pub record IsAudit (bytes text : List ℕ) : Type 0 where
  pub journal : List ℕ
  pub behind : List ℕ
  pub cut : IsCutBehindEnd bytes journal behind
  pub history : List Entry
  pub read : IsJournalOf history journal
  pub file : DayParts
  pub day_read : day_of behind ≡ Ok file
  pub legal : IsLegal file.base file.day history
  pub line : text ≡ legal_history_line (length history)

-- `audit`: it reads, leaves no choice of the text, and tells nobody of recalls
abbrev pub audit : Command
audit = record {
  reads = true;
  Judges = JudgesAudit;
  IsOutput = IsAudit;
  LeavesNoChoice = λ bytes. Unit {0};
  recalls = λ bytes text verdict. None;
}
