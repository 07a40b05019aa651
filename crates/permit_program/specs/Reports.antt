-- `check` and `design`: reports on one truck.
use Rattle.std.specs.Prelude.{◌≡◌, ℕ, true, List, None, Ok}
use Rattle.day_text.specs.declared.check_file.CheckFile.{CheckFile}
use Rattle.day_text.specs.Checks.{check_of}
use Rattle.report_text.specs.Checks.{IsReport}
use Rattle.report_text.specs.Designs.{IsDesignReport}
use Rattle.permit_program.specs.Command.{Command, judged_by, refusal_in}

-- the promise: the bytes are a check file, and the text is the report on that file
pub record IsReportOn (IsReportOf : CheckFile → List ℕ → Type 0) (bytes text : List ℕ) : Type 0 where
  pub file : CheckFile
  pub read : check_of bytes ≡ Ok file
  pub report : IsReportOf file text

-- a command that reads a check file, leaves no choice of its report, and tells nobody of recalls
abbrev pub reporting : (CheckFile → List ℕ → Type 0) → Command
reporting IsReportOf = record {
  reads = true;
  Judges = judged_by (λ bytes. refusal_in (check_of bytes));
  IsOutput = IsReportOn IsReportOf;
  LeavesNoChoice = λ bytes. Unit {0};
  recalls = λ bytes text report. None;
}

-- `check`: the report on one truck
abbrev pub check : Command
check = reporting IsReport

-- `design`: the report on one truck beside the three design loads
abbrev pub design : Command
design = reporting IsDesignReport
