-- Which statuses come.
use Rattle.std.proofs.Common.{◌≡◌, ◌⊎◌, ◌≢◌, ℕ, Bool, List, Option, Some, None, refl, subst, inl, inr}
use Rattle.std.specs.Prelude.{Result, Ok, Err}
use Rattle.command_line.specs.declared.asked.ClerkTask.{ClerkTask}
use Rattle.command_line.specs.declared.asked.ClerkTask.TheVariants as task
use Rattle.day_text.specs.Days.{DayParts, day_of}
use Rattle.day_text.specs.Records.{Row, rows_of}
use Rattle.day_text.specs.declared.refusal.Cause.{Cause}
use Rattle.day_text.specs.declared.refusal.Cause.TheVariants as why
use Rattle.office_words.specs.declared.entry.Entry.{Entry}
use Rattle.journal_audit.specs.declared.verdict.Verdict.{Verdict}
use Rattle.journal_audit.specs.declared.verdict.Verdict.TheVariants.{Bad, Legal}
use Rattle.journal_whole.specs.declared.wholeness.Wholeness.{Wholeness}
use Rattle.journal_whole.specs.declared.wholeness.Wholeness.TheVariants.{Lacks, Strays, Whole}
use Rattle.report_text.specs.RefusalLines.{refusal_status_of}
use Rattle.permit_program.specs.Audit.{answer_to_entry, answer_to_line}
use Rattle.permit_program.specs.Command.{Answer, answer_to}
use Rattle.permit_program.specs.Runs.{IsPlain, Outside, RefusedBytes, RefusedFile, WroteUntold, status_called_for}
use Rattle.permit_program.proofs.Lawful.{RefusesNamed}
use Rattle.clerk_program.specs.Carry.{IsCarriedOver, carry}
use Rattle.clerk_program.specs.Certify.{IsTaken, certify}
use Rattle.clerk_program.specs.Clerk.{clerk_command_of, permit_clerk}
use Rattle.clerk_program.specs.Laws.{ClerkJudgesOnce, ClerkStatusesAreNamed, IsClerkStatus}
use Rattle.clerk_program.specs.WholeJournals.{GoesOn, JudgesEntries, JudgesHistory, JudgesSizes, JudgesWhole, JudgesWholeness, answer_to_bytes, answer_to_lack, answer_to_stray}
use Rattle.clerk_program.proofs.Carrying.{carried_once, too_long_status}
use Rattle.clerk_program.proofs.Certificates.{taken_once}
use Rattle.clerk_program.proofs.Wholes.{judged_once}

-- each refusal of the clerk ends with 5, 6 or 9
abbrev pub IsClerkRefusal : ℕ → Type 0
IsClerkRefusal status = (status ≡ 5) ⊎ (status ≡ 6) ⊎ (status ≡ 9)

cause_status : (cause : Cause) → IsClerkRefusal (refusal_status_of cause)
cause_status (why.Bad cause) = inl refl
cause_status (why.TooMany kind) = inr (inl refl)

-- the answer is one of such a status
answers : (told wanted : Answer) → Some told ≡ Some wanted → IsClerkRefusal told.status → IsClerkRefusal wanted.status
answers told wanted is status = subst (λ (o : Option Answer). IsClerkRefusal (status_called_for o)) is status

-- so ends each refusal of what goes on
abbrev RefusesSo : GoesOn → Type 0
RefusesSo Goes = (f : DayParts) (es : List Entry) (answer : Answer) → Goes f es (Some answer) → IsClerkRefusal answer.status

module _ (Goes : GoesOn) (so : RefusesSo Goes) where
  wholeness_named : (rows : List Row) (f : DayParts) (es : List Entry) (w : Wholeness) (answer : Answer) → JudgesWholeness rows (Goes f es) w (Some answer) → IsClerkRefusal answer.status
  wholeness_named rows f es Whole answer is = so f es answer is
  wholeness_named rows f es (Strays n) answer is = answers (answer_to_stray n) answer is (inr (inr refl))
  wholeness_named rows f es (Lacks k) answer (row, at, is) = answers (answer_to_lack row) answer is (inr (inr refl))

  entries_named : (rows : List Row) (f : DayParts) (es : List Entry) (v : Verdict) (answer : Answer) → JudgesEntries Goes rows f es v (Some answer) → IsClerkRefusal answer.status
  entries_named rows f es Legal answer (w, said, is) = wholeness_named rows f es w answer is
  entries_named rows f es (Bad n) answer is = answers (answer_to_entry n) answer is (inr (inr refl))

  history_named : (rows : List Row) (es : List Entry) (told : Result DayParts (ℕ × Cause)) (answer : Answer) → JudgesHistory Goes rows es told (Some answer) → IsClerkRefusal answer.status
  history_named rows es (Ok f) answer (v, right, is) = entries_named rows f es v answer is
  history_named rows es (Err (row, cause)) answer is = answers (answer_to (row, cause)) answer is (cause_status cause)

  sizes_named : (journal behind : List ℕ) (answer : Answer) → JudgesSizes Goes journal behind (Some answer) → IsClerkRefusal answer.status
  sizes_named journal behind answer (inl (large, is)) = answers answer_to_bytes answer is (inr (inl refl))
  sizes_named journal behind answer (inr (sizes, inl (row, bad, is))) = answers (answer_to_line row) answer is (inl refl)
  sizes_named journal behind answer (inr (sizes, inr (history, read, judged))) = history_named (rows_of behind) history (day_of behind) answer judged

  whole_named : (bytes : List ℕ) (answer : Answer) → JudgesWhole Goes bytes (Some answer) → IsClerkRefusal answer.status
  whole_named bytes answer refused = sizes_named refused.journal refused.behind answer refused.judged

taken_so : RefusesSo IsTaken
taken_so f es answer is = absurd (cc is)

carried_so : (in_force : Bool) → RefusesSo (IsCarriedOver in_force)
carried_so in_force f es answer is = answers answer_to_bytes answer (too_long_status _ answer is) (inr (inl refl))

clerk_refuses : (t : ClerkTask) (bytes : List ℕ) (answer : Answer) → (clerk_command_of t).Judges bytes (Some answer) → IsClerkRefusal answer.status
clerk_refuses task.Certify bytes answer is = whole_named IsTaken taken_so bytes answer is
clerk_refuses (task.Carry in_force) bytes answer is = whole_named (IsCarriedOver in_force) (carried_so in_force) bytes answer is

-- among the refusals of the permit office's program
widened : (status : ℕ) → IsClerkRefusal status → (status ≡ 5) ⊎ (status ≡ 6) ⊎ (status ≡ 9) ⊎ (status ≡ 10)
widened status (inl e) = inl e
widened status (inr (inl e)) = inr (inl e)
widened status (inr (inr e)) = inr (inr (inl e))

pub certify_named : RefusesNamed certify
certify_named bytes answer refused = widened answer.status (clerk_refuses task.Certify bytes answer refused)

pub carry_named : (in_force : Bool) → RefusesNamed (carry in_force)
carry_named in_force bytes answer refused = widened answer.status (clerk_refuses (task.Carry in_force) bytes answer refused)

pub clerk_once : ClerkJudgesOnce
clerk_once task.Certify bytes a b x y = judged_once IsTaken taken_once bytes a b x y
clerk_once (task.Carry in_force) bytes a b x y = judged_once (IsCarriedOver in_force) (carried_once in_force) bytes a b x y

-- nobody is told of recalls
never_untold : {S K : Type 0} (t : ClerkTask) (before after : Outside S K) → WroteUntold (clerk_command_of t) before after → ⊥
never_untold task.Certify before after wrote = absurd (cc wrote.made.told)
never_untold (task.Carry in_force) before after wrote = absurd (cc wrote.made.told)

plain_named : (status : ℕ) → IsPlain status → status ≢ 8 → IsClerkStatus status
plain_named status (inl e) not8 = inl e
plain_named status (inr (inl e)) not8 = inr (inl e)
plain_named status (inr (inr (inl e))) not8 = inr (inr (inl e))
plain_named status (inr (inr (inr (inl e)))) not8 = inr (inr (inr (inl e)))
plain_named status (inr (inr (inr (inr (inl e))))) not8 = inr (inr (inr (inr (inr (inr (inl e))))))
plain_named status (inr (inr (inr (inr (inr e))))) not8 = absurd (not8 e)

refusal_named : (status : ℕ) → IsClerkRefusal status → IsClerkStatus status
refusal_named status (inl e) = inr (inr (inr (inr (inl e))))
refusal_named status (inr (inl e)) = inr (inr (inr (inr (inr (inl e)))))
refusal_named status (inr (inr e)) = inr (inr (inr (inr (inr (inr (inr e))))))

refused_named : {S K : Type 0} (most status : ℕ) (t : ClerkTask) (before after : Outside S K)
    → RefusedBytes most status (clerk_command_of t) before after ⊎ RefusedFile most status (clerk_command_of t) before after → IsClerkStatus status
refused_named most status t before after (inl bytes) = refusal_named status (inr (inl bytes.is_status))
refused_named most status t before after (inr refused) =
    refusal_named status (subst IsClerkRefusal refused.is_status (clerk_refuses t refused.bytes refused.answer refused.refused))

pub clerk_named : {S K : Type 0} → ClerkStatusesAreNamed S K
clerk_named None before after status run =
    elim run.refused [ inl plain ↦ plain_named status plain (λ e. run.untold e) | inr none ↦ absurd none ]
clerk_named (Some t) before after status run =
    elim run.refused [
      | inl plain ↦ plain_named status plain (λ e. never_untold t before after (run.untold e))
      | inr refused ↦ refused_named permit_clerk.most status t before after refused
    ]
