-- What is known of bytes once they are read and judged as a whole journal.
use Rattle.std.specs.Prelude.{◌≡◌, ℕ, List, Ok, Some, length}
use Rattle.std.specs.Arc.{arc_value}
use Rattle.std.specs.String.{string_bytes}
use Rattle.trip_analysis.specs.Bases.{BaseLists}
use Rattle.day_text.specs.Days.{DayParts, day_of}
use Rattle.day_text.specs.Records.{Row}
use Rattle.day_text.specs.declared.orders.Order.{Order}
use Rattle.office_words.specs.declared.entry.Entry.{Entry}
use Rattle.office_core.specs.Registers.{RegisterParts}
use Rattle.journal_audit.specs.Verdicts.{IsLeftBy}
use Rattle.journal_audit.specs.declared.verdict.Verdict.{Verdict}
use Rattle.journal_audit.specs.declared.verdict.Verdict.TheVariants.{Bad}
use Rattle.journal_whole.specs.Wholes.{IsWhole, IsWholeness}
use Rattle.journal_whole.specs.declared.wholeness.Wholeness.{Wholeness}
use Rattle.permit_program.specs.Audit.{answer_to_entry}
use Rattle.permit_program.specs.Command.{IsCommandAnswer}
use Rattle.permit_program.specs.declared.refusal.Refusal.{Refusal}
use Rattle.permit_program.specs.declared.refusal.Refusal.TheVariants.{NoMemory, Refused}
use Rattle.clerk_program.specs.declared.whole_day.WholeDay.{WholeDay}
use Rattle.clerk_program.specs.WholeJournals.{GoesOn, IsOfficeHistory, IsOfficeVerdict, IsWholeJournal, JudgesEntries, JudgesWhole, JudgesWholeness}

-- nothing goes on: what is refused so is refused in front of that
abbrev pub Stops : GoesOn
Stops file history judgement = ⊥

-- bytes are refused in this way as no whole journal, unless memory was wanting
abbrev pub IsUnfit : List ℕ → Refusal → Type 0
IsUnfit bytes (Refused status line) = JudgesWhole Stops bytes (Some (record { status = status; line = string_bytes line }))
IsUnfit bytes NoMemory = Unit {0}

-- the day file of a whole day
abbrev pub file_of : WholeDay → DayParts
file_of d = record { base = arc_value d.base; day = d.day; actors = d.actors.items; commands = d.commands.items }

-- the bytes are a whole journal, and this is its day with what its office keeps in the end
pub record IsWholeDay (bytes : List ℕ) (d : WholeDay) : Type 0 where
  pub whole : IsWholeJournal bytes
  pub file : whole.file ≡ file_of d
  pub history : whole.history ≡ d.history.items
  pub left : IsLeftBy (arc_value d.base) d.day d.history.items d.office

-- this is what an office keeps behind a history that it can have
pub record IsHad (base : BaseLists) (day : List ℕ) (es : List Entry) (office : RegisterParts) : Type 0 where
  pub kept : IsOfficeHistory base day es
  pub left : IsLeftBy base day es office

-- a history is refused in this way by its first entry that no office can have, unless memory was wanting
pub record IsBadRefusal (base : BaseLists) (day : List ℕ) (es : List Entry) (r : Refusal) : Type 0 where
  pub entry : ℕ
  pub bad : IsOfficeVerdict base day es (Bad entry)
  pub answer : IsCommandAnswer (answer_to_entry entry) r

-- so a history is refused, unless memory was wanting
abbrev pub IsEntryRefusal : BaseLists → List ℕ → List Entry → Refusal → Type 0
IsEntryRefusal base day es (Refused status line) = IsBadRefusal base day es (Refused status line)
IsEntryRefusal base day es NoMemory = Unit {0}

-- a history is refused in this way by the commands of a file of these records, unless memory was wanting
abbrev pub IsOrderRefusal : List Row → ℕ → List Order → List Entry → Refusal → Type 0
IsOrderRefusal rows actors orders es (Refused status line) =
    (w : Wholeness) × IsWholeness actors orders es w
    × JudgesWholeness rows (λ judgement. ⊥) w (Some (record { status = status; line = string_bytes line }))
IsOrderRefusal rows actors orders es NoMemory = Unit {0}

-- a history is refused in this way, by the records of its day file, unless memory was wanting
abbrev pub IsHistoryRefusal : List Row → DayParts → List Entry → Refusal → Type 0
IsHistoryRefusal rows file es (Refused status line) =
    (verdict : Verdict) × IsOfficeVerdict file.base file.day es verdict
    × JudgesEntries Stops rows file es verdict (Some (record { status = status; line = string_bytes line }))
IsHistoryRefusal rows file es NoMemory = Unit {0}

-- a history of this file is one that an office can have, and one of all its commands; and this is its day
pub record IsDayOf (parts : DayParts) (es : List Entry) (d : WholeDay) : Type 0 where
  pub kept : IsOfficeHistory parts.base parts.day es
  pub whole : IsWhole (length parts.actors) parts.commands es
  pub file : parts ≡ file_of d
  pub history : es ≡ d.history.items
  pub left : IsLeftBy (arc_value d.base) d.day d.history.items d.office

-- the bytes are a day file of these commands
pub record IsFileOf (bytes : List ℕ) (orders : List Order) : Type 0 where
  pub file : DayParts
  pub read : day_of bytes ≡ Ok file
  pub commands : file.commands ≡ orders
