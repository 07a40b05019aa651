-- `convoy`: the report on equal trucks that follow each other.
use Rattle.std.specs.Prelude.{◌≡◌, ℕ, true, List, Option, Some, None, option_map, Result, Ok, Err}
use Rattle.convoy_moves.specs.Convoys.{convoy_of}
use Rattle.convoy_moves.specs.Refusals.{first_refusal}
use Rattle.convoy_moves.specs.declared.refusal.ConvoyRefusal.{ConvoyRefusal}
use Rattle.day_text.specs.declared.refusal.Cause.{Cause}
use Rattle.day_text.specs.declared.check_file.CheckFile.{CheckFile}
use Rattle.day_text.specs.Checks.{check_of}
use Rattle.report_text.specs.Convoys.{IsConvoyReport, convoy_refusal_line}
use Rattle.permit_program.specs.Command.{Answer, Command, answer_to, judged_by}

-- how trucks that are no convoy are answered
abbrev pub answer_to_convoy : ConvoyRefusal → Answer
answer_to_convoy refusal = record { status = 5; line = convoy_refusal_line refusal }

-- how bytes are refused: as a file is; and where they are a check file, by the first limit that so many trucks pass with this gap
abbrev pub convoy_refusal : ℕ → ℕ → Result CheckFile (ℕ × Cause) → Option Answer
convoy_refusal trucks gap (Ok file) = option_map answer_to_convoy (first_refusal (convoy_of file.truck.load.train trucks gap))
convoy_refusal trucks gap (Err refused) = Some (answer_to refused)

-- the promise: the bytes are a check file, and the text is the report on so many of its trucks with this gap, on its probes
pub record IsConvoyReportOn (trucks gap : ℕ) (bytes text : List ℕ) : Type 0 where
  pub file : CheckFile
  pub read : check_of bytes ≡ Ok file
  pub report : IsConvoyReport (convoy_of file.truck.load.train trucks gap) file.probes text

-- `convoy`, with so many trucks and this gap: it reads, leaves no choice of the text, and tells nobody of recalls
abbrev pub convoy : ℕ → ℕ → Command
convoy trucks gap = record {
  reads = true;
  Judges = judged_by (λ bytes. convoy_refusal trucks gap (check_of bytes));
  IsOutput = IsConvoyReportOn trucks gap;
  LeavesNoChoice = λ bytes. Unit {0};
  recalls = λ bytes text report. None;
}
