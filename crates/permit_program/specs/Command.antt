-- A command of the program, as a value: all that a run of it depends on.
use Rattle.std.specs.Prelude.{◌≡◌, ℕ, Bool, List, Option, Some, None, Result, Ok, Err}
use Rattle.std.specs.String.{string_bytes}
use Rattle.notice_desk.specs.declared.notice.Recall.{Recall}
use Rattle.day_text.specs.declared.refusal.Cause.{Cause}
use Rattle.day_text.specs.declared.refusal.FileRefusal.{FileRefusal}
use Rattle.day_text.specs.declared.refusal.FileRefusal.TheVariants as file
use Rattle.report_text.specs.RefusalLines.{refusal_line_of, refusal_status_of}
use Rattle.permit_program.specs.declared.refusal.Refusal.{Refusal}
use Rattle.permit_program.specs.declared.refusal.Refusal.TheVariants.{NoMemory, Refused}

-- how bytes are refused: with which status, and which line
pub record Answer : Type 0 where
  pub status : ℕ
  pub line : List ℕ

-- a command: what it reads, how it judges bytes, what it promises of its text, and whom it tells
pub record Command : Type 1 where
  -- whether it reads what the source has left; a command that does not has no bytes
  pub reads : Bool
  -- its judgement of bytes: none where it takes them, or how it refuses them
  pub Judges : List ℕ → Option Answer → Type 0
  -- its promise about the text that it writes for bytes
  pub IsOutput : List ℕ → List ℕ → Type 0
  -- the bytes for which the promise leaves no choice
  pub LeavesNoChoice : List ℕ → Type 0
  -- the recalls that are told behind a text, or that nobody is told anything
  pub recalls : (bytes text : List ℕ) → IsOutput bytes text → Option (List Recall)

-- The judgement of bytes is what a function says of them.
abbrev pub judged_by : (List ℕ → Option Answer) → List ℕ → Option Answer → Type 0
judged_by refusal bytes judgement = refusal bytes ≡ judgement

-- A command makes this text of these bytes: it takes them, the text keeps its promise, and no other text does where
-- the promise leaves no choice.
pub record Makes (command : Command) (bytes text : List ℕ) : Type 0 where
  pub taken : command.Judges bytes None
  pub output : command.IsOutput bytes text
  pub only : command.LeavesNoChoice bytes → (other : List ℕ) → command.IsOutput bytes other → other ≡ text

-- and these are the recalls that are told behind it
pub record MakesAndTells (command : Command) (bytes text : List ℕ) (recalls : List Recall) : Type 0 where
  pub made : Makes command bytes text
  pub told : command.recalls bytes text made.output ≡ Some recalls

-- A command refuses the bytes in just this way, unless memory was wanting.
abbrev pub IsRefusalOf : Command → List ℕ → Refusal → Type 0
IsRefusalOf command bytes (Refused status line) =
    command.Judges bytes (Some (record { status = status; line = string_bytes line }))
IsRefusalOf command bytes NoMemory = Unit {0}

-- a judgement is that the bytes are refused in this way, unless memory was wanting
abbrev pub IsRefusalBy : Option Answer → Refusal → Type 0
IsRefusalBy judgement (Refused status line) = judgement ≡ Some (record { status = status; line = string_bytes line })
IsRefusalBy judgement NoMemory = Unit {0}

-- bytes are answered in this way, unless memory was wanting
abbrev pub IsCommandAnswer : Answer → Refusal → Type 0
IsCommandAnswer answer (Refused status line) = answer ≡ record { status = status; line = string_bytes line }
IsCommandAnswer answer NoMemory = Unit {0}

-- how a refused record is answered
abbrev pub answer_to : ℕ × Cause → Answer
answer_to (row, cause) = record { status = refusal_status_of cause; line = refusal_line_of row cause }

-- how a file is refused, if it is: by the row of its first refused record, and the first cause that holds for it
abbrev pub refusal_in : {T : Type 0} → Result T (ℕ × Cause) → Option Answer
refusal_in (Ok file) = None
refusal_in (Err refused) = Some (answer_to refused)

-- a refused file is answered in this way, unless memory was wanting
abbrev pub IsAnswerTo : FileRefusal → Refusal → Type 0
IsAnswerTo (file.Refused row cause) (Refused status line) =
    answer_to (row, cause) ≡ record { status = status; line = string_bytes line }
IsAnswerTo file.NoMemory (Refused status line) = ⊥
IsAnswerTo refused NoMemory = Unit {0}
