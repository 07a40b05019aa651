-- What every command keeps, whatever it is.
use Rattle.std.proofs.Common.{◌≡◌, ◌⊎◌, ℕ, List, Option, Some, None, sym, subst, inl, inr, ◌∙◌, refl}
use Rattle.std.specs.Prelude.{Result, Ok, Err, option_map}
use Rattle.report_text.specs.Checks.{IsReport}
use Rattle.command_line.specs.declared.asked.Options.{Options}
use Rattle.command_line.specs.declared.asked.Task.{Task}
use Rattle.command_line.specs.declared.asked.Task.TheVariants as task
use Rattle.convoy_moves.specs.Convoys.{convoy_of}
use Rattle.convoy_moves.specs.Refusals.{first_refusal}
use Rattle.convoy_moves.specs.declared.refusal.ConvoyRefusal.{ConvoyRefusal}
use Rattle.day_maker.specs.Made.{made_day}
use Rattle.day_text.specs.declared.check_file.CheckFile.{CheckFile}
use Rattle.day_text.specs.Checks.{check_of}
use Rattle.day_text.specs.Days.{DayParts, day_of}
use Rattle.journal_audit.specs.declared.verdict.Verdict.{Verdict}
use Rattle.journal_audit.specs.declared.verdict.Verdict.TheVariants.{Bad, Legal}
use Rattle.report_text.specs.Designs.{IsDesignReport}
use Rattle.office_words.specs.declared.entry.Entry.{Entry}
use Rattle.day_text.specs.declared.refusal.Cause.{Cause}
use Rattle.day_text.specs.declared.refusal.Cause.TheVariants as why
use Rattle.report_text.specs.RefusalLines.{refusal_status_of}
use Rattle.permit_program.specs.Audit.{JudgesHistory, JudgesParts, answer_to_entry, answer_to_line, answer_to_verdict}
use Rattle.permit_program.specs.Command.{Answer, Command, answer_to, judged_by, refusal_in}
use Rattle.permit_program.specs.Commands.{command_by}
use Rattle.permit_program.specs.Convoy.{answer_to_convoy, convoy_refusal}
use Rattle.permit_program.specs.Made.{IsTrial, reading_none}
use Rattle.permit_program.specs.Reports.{reporting}
use Rattle.permit_program.specs.Reroute.{JudgesFile, answer_to_entries}
use Rattle.permit_program.specs.Runs.{Outside, WroteUntold, status_called_for}
use Rattle.permit_program.proofs.Audits.{audits_once}
use Rattle.permit_program.proofs.Reroutes.{reroutes_once}

-- each refusal of a command ends with 5, 6, 9 or 10
abbrev pub IsRefusalStatus : ℕ → Type 0
IsRefusalStatus status = (status ≡ 5) ⊎ (status ≡ 6) ⊎ (status ≡ 9) ⊎ (status ≡ 10)

-- so ends each refusal of a command
abbrev pub RefusesNamed : Command → Type 0
RefusesNamed command = (bytes : List ℕ) (answer : Answer) → command.Judges bytes (Some answer) → IsRefusalStatus answer.status

pub cause_status : (cause : Cause) → IsRefusalStatus (refusal_status_of cause)
cause_status (why.Bad cause) = inl refl
cause_status (why.TooMany kind) = inr (inl refl)

-- the answer is one of such a status
pub answers : (told wanted : Answer) → Some told ≡ Some wanted → IsRefusalStatus told.status → IsRefusalStatus wanted.status
answers told wanted is status = subst (λ (o : Option Answer). IsRefusalStatus (status_called_for o)) is status

file_status : {T : Type 0} (told : Result T (ℕ × Cause)) (answer : Answer) → refusal_in told ≡ Some answer → IsRefusalStatus answer.status
file_status (Ok file) answer is = absurd cc
file_status (Err (row, cause)) answer is = answers (answer_to (row, cause)) answer is (cause_status cause)

limit_status : (refused : Option ConvoyRefusal) (answer : Answer) → option_map answer_to_convoy refused ≡ Some answer → IsRefusalStatus answer.status
limit_status None answer is = absurd cc
limit_status (Some refusal) answer is = answers (answer_to_convoy refusal) answer is (inl refl)

convoy_status : (trucks gap : ℕ) (told : Result CheckFile (ℕ × Cause)) (answer : Answer)
    → convoy_refusal trucks gap told ≡ Some answer → IsRefusalStatus answer.status
convoy_status trucks gap (Ok file) answer is = limit_status (first_refusal (convoy_of file.truck.load.train trucks gap)) answer is
convoy_status trucks gap (Err refused) answer is = file_status {T = CheckFile} (Err refused) answer is

pub verdict_status : (verdict : Verdict) (answer : Answer) → answer_to_verdict verdict ≡ Some answer → IsRefusalStatus answer.status
verdict_status Legal answer is = absurd cc
verdict_status (Bad n) answer is = answers (answer_to_entry n) answer is (inr (inr (inl refl)))

history_status : (history : List Entry) (told : Result DayParts (ℕ × Cause)) (answer : Answer) → JudgesHistory history told (Some answer) → IsRefusalStatus answer.status
history_status history (Ok file) answer (verdict, right, is) = verdict_status verdict answer is
history_status history (Err (row, cause)) answer is = answers (answer_to (row, cause)) answer is (cause_status cause)

audit_status : (journal behind : List ℕ) (answer : Answer) → JudgesParts journal behind (Some answer) → IsRefusalStatus answer.status
audit_status journal behind answer (inl (row, bad, is)) = answers (answer_to_line row) answer is (inl refl)
audit_status journal behind answer (inr (history, read, judged)) = history_status history (day_of behind) answer judged

reroute_status : (told : Result DayParts (ℕ × Cause)) (answer : Answer) → JudgesFile told (Some answer) → IsRefusalStatus answer.status
reroute_status (Ok file) answer (inl (room, is)) = absurd cc
reroute_status (Ok file) answer (inr (long, is)) = answers answer_to_entries answer is (inr (inr (inr refl)))
reroute_status (Err (row, cause)) answer is = answers (answer_to (row, cause)) answer is (cause_status cause)

-- nobody is told of recalls
abbrev TellsNobody : Command → Type 0
TellsNobody command = (bytes text : List ℕ) (output : command.IsOutput bytes text) → command.recalls bytes text output ≡ None

-- the command of a task: each of its refusals has one of these statuses, it judges bytes in one way, and only a day tells of recalls
pub record IsLawful (t : Task) (command : Command) : Type 0 where
  pub statuses : RefusesNamed command
  pub once : (bytes : List ℕ) (a b : Option Answer) → command.Judges bytes a → command.Judges bytes b → a ≡ b
  pub tells : (t ≡ task.Day) ⊎ TellsNobody command

-- what is judged by a function is judged once
by_function : (judge : List ℕ → Option Answer) (bytes : List ℕ) (a b : Option Answer) → judged_by judge bytes a → judged_by judge bytes b → a ≡ b
by_function judge bytes a b so also = sym so ∙ also

refuses_none : (t : Task) (IsText : List ℕ → Type 0) → IsLawful t (reading_none IsText)
refuses_none t IsText = record { statuses = λ bytes answer is. absurd cc; once = by_function (λ bytes. None); tells = inr (λ bytes text output. refl) }

reports : (t : Task) (IsReportOf : CheckFile → List ℕ → Type 0) → IsLawful t (reporting IsReportOf)
reports t IsReportOf = record {
  statuses = λ bytes answer is. file_status (check_of bytes) answer is;
  once = by_function (λ bytes. refusal_in (check_of bytes));
  tells = inr (λ bytes text output. refl);
}

pub lawful : (t : Task) (options : Options) → IsLawful t (command_by t options)
lawful task.Check options = reports task.Check IsReport
lawful task.Day options = record {
  statuses = λ bytes answer is. file_status (day_of bytes) answer is;
  once = by_function (λ bytes. refusal_in (day_of bytes));
  tells = inl refl;
}
lawful task.Make options = refuses_none task.Make (λ text. text ≡ made_day options.seed options.size)
lawful task.Trial options = refuses_none task.Trial (IsTrial options.seed options.size)
lawful task.Audit options = record {
  statuses = λ bytes answer is. audit_status is.journal is.behind answer is.judged;
  once = audits_once;
  tells = inr (λ bytes text output. refl);
}
lawful task.Design options = reports task.Design IsDesignReport
lawful task.Convoy options = record {
  statuses = λ bytes answer is. convoy_status options.trucks options.gap (check_of bytes) answer is;
  once = by_function (λ bytes. convoy_refusal options.trucks options.gap (check_of bytes));
  tells = inr (λ bytes text output. refl);
}
lawful task.Reroute options = record {
  statuses = λ bytes answer is. reroute_status (day_of bytes) answer is;
  once = reroutes_once;
  tells = inr (λ bytes text output. refl);
}

-- a command that is no day's tells nobody
pub tells_nobody : (t : Task) (options : Options) → (t ≡ task.Day → ⊥) → TellsNobody (command_by t options)
tells_nobody t options other = elim (lawful t options).tells [ inl day ↦ absurd (other day) | inr nobody ↦ nobody ]

-- what tells is a day's
pub tells : {S K : Type 0} (t : Task) (options : Options) (before after : Outside S K) → WroteUntold (command_by t options) before after → t ≡ task.Day
tells t options before after untold = elim (lawful t options).tells [
  | inl day ↦ day
  | inr nobody ↦ absurd (let clash = sym (nobody untold.bytes untold.text untold.made.made.output) ∙ untold.made.told in cc)
]
