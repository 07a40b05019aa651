-- `certify`: whether a journal is one of all of the day whose file stands behind it.
use Rattle.std.specs.Prelude.{◌≡◌, ◌++◌, ◌∷◌, [], ℕ, true, List, length, codes, None}
use Rattle.std.specs.Fmt.{decimal}
use Rattle.permit_program.specs.Command.{Command}
use Rattle.clerk_program.specs.WholeJournals.{GoesOn, IsWholeJournal, JudgesWhole}

-- a whole journal is taken, and nothing more is asked of it
abbrev pub IsTaken : GoesOn
IsTaken file history judgement = None ≡ judgement

-- the line that says so of a whole history
abbrev pub whole_history_line : ℕ → List ℕ
whole_history_line count = codes "whole " ++ (decimal count ++ (10 ∷ []))

-- The promise: the bytes are a whole journal, and the text says so, with the number of its entries.
pub record IsCertificate (bytes text : List ℕ) : Type 0 where
  pub whole : IsWholeJournal bytes
  pub line : text ≡ whole_history_line (length whole.history)

-- `certify`: it reads, leaves no choice of the text, and tells nobody of recalls
abbrev pub certify : Command
certify = record {
  reads = true;
  Judges = JudgesWhole IsTaken;
  IsOutput = IsCertificate;
  LeavesNoChoice = λ bytes. Unit {0};
  recalls = λ bytes text output. None;
}
