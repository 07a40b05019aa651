-- `make` and `trial`: a day file that is made from a number, and the summary of its day.
use Rattle.std.specs.Prelude.{◌≡◌, ℕ, false, List, None, Ok}
use Rattle.day_text.specs.Days.{DayParts, day_of}
use Rattle.day_maker.specs.Made.{made_day}
use Rattle.day_trial.specs.Serial.{IsSerial}
use Rattle.report_text.specs.Summaries.{summary_of}
use Rattle.office_words.specs.declared.entry.Entry.{Entry}
use Rattle.permit_program.specs.Command.{Command, judged_by}

-- the promise of `trial`: what is made of the seed and the size is a day file, the history is one of an office on one thread
-- that carries out its commands one after another, and the text sums that history up
pub record IsTrial (seed size : ℕ) (text : List ℕ) : Type 0 where
  pub file : DayParts
  pub read : day_of (made_day seed size) ≡ Ok file
  pub history : List Entry
  pub serial : IsSerial file history
  pub summary : text ≡ summary_of history

-- a command that reads nothing, refuses nothing and tells nobody, whose promise leaves no choice
abbrev pub reading_none : (List ℕ → Type 0) → Command
reading_none IsText = record {
  reads = false;
  Judges = judged_by (λ bytes. None);
  IsOutput = λ bytes text. IsText text;
  LeavesNoChoice = λ bytes. Unit {0};
  recalls = λ bytes text output. None;
}

-- `make`: its text is the day file that is made of the seed and the size
abbrev pub make : ℕ → ℕ → Command
make seed size = reading_none (λ text. text ≡ made_day seed size)

-- `trial`: its text sums up the day that is made of the seed and the size
abbrev pub trial : ℕ → ℕ → Command
trial seed size = reading_none (IsTrial seed size)
