-- An audit judges bytes in one way alone.
use Rattle.std.proofs.Common.{◌≡◌, ℕ, List, length, Option, Some, None, refl, ap, subst, sym, ◌∙◌, inl, inr}
use Rattle.std.specs.Prelude.{Result, Ok, Err}
use Rattle.std.specs.String.{string_bytes}
use Rattle.day_text.specs.declared.refusal.Cause.{Cause}
use Rattle.day_text.specs.declared.refusal.FileRefusal.{FileRefusal}
use Rattle.day_text.specs.declared.refusal.FileRefusal.TheVariants as file
use Rattle.day_text.specs.Refusals.{IsRefusedAs}
use Rattle.journal_reader.specs.Cuts.{IsCutBehindEnd}
use Rattle.journal_audit.specs.declared.verdict.Verdict.{Verdict}
use Rattle.journal_audit.specs.declared.verdict.Verdict.TheVariants.{Bad, Legal}
use Rattle.journal_audit.specs.Verdicts.{IsVerdict}
use Rattle.day_text.specs.Days.{DayParts, day_of}
use Rattle.office_words.specs.declared.entry.Entry.{Entry}
use Rattle.journal_reader.specs.Journals.{IsJournalOf}
use Rattle.journal_reader.specs.declared.refusal.JournalRefusal.TheVariants.{BadLine}
use Rattle.journal_reader.proofs.Answers.{one_answer}
use Rattle.journal_reader.proofs.OneCut.{one_cut}
use Rattle.journal_reader.proofs.Whole.{one_history}
use Rattle.journal_audit.proofs.Fronts.{verdicts_one}
use Rattle.permit_program.specs.Audit.{JudgesAudit, JudgesHistory, JudgesParts, answer_to_entry, answer_to_line, answer_to_verdict, audit, legal_history_line}
use Rattle.permit_program.specs.Command.{Answer, IsCommandAnswer, IsAnswerTo, IsRefusalOf, Makes}
use Rattle.permit_program.specs.declared.refusal.Refusal.{Refusal}
use Rattle.permit_program.specs.declared.refusal.Refusal.TheVariants as refusal

history_once : (history : List Entry) (told : Result DayParts (ℕ × Cause)) (a b : Option Answer) → JudgesHistory history told a → JudgesHistory history told b → a ≡ b
history_once history (Ok file) a b (v, right, is) (w, also, is') =
    sym is ∙ (ap answer_to_verdict (verdicts_one file.base file.day history v w right also) ∙ is')
history_once history (Err refused) a b is is' = sym is ∙ is'

parts_once : (journal behind : List ℕ) (a b : Option Answer) → JudgesParts journal behind a → JudgesParts journal behind b → a ≡ b
parts_once journal behind a b (inl (row, bad, is)) (inl (row', bad', is')) =
    let same = one_answer journal (Err (BadLine row)) (Err (BadLine row')) bad bad' (λ e. absurd (cc e)) (λ e. absurd (cc e)) in
    let rows : row ≡ row' = cc same in
    sym is ∙ (ap (λ n. Some (answer_to_line n)) rows ∙ is')
parts_once journal behind a b (inl (row, bad, is)) (inr (history, read, judged)) =
    absurd (cc (one_answer journal (Err (BadLine row)) (Ok history) bad read (λ e. absurd (cc e)) (λ e. absurd (cc e))))
parts_once journal behind a b (inr (history, read, judged)) (inl (row, bad, is)) =
    absurd (cc (one_answer journal (Ok history) (Err (BadLine row)) read bad (λ e. absurd (cc e)) (λ e. absurd (cc e))))
parts_once journal behind a b (inr (h, read, judged)) (inr (k, read', judged')) =
    history_once h (day_of behind) a b judged (subst (λ (es : List Entry). JudgesHistory es (day_of behind) b) (sym (one_history h k journal read read')) judged')

pub audits_once : (bytes : List ℕ) (a b : Option Answer) → JudgesAudit bytes a → JudgesAudit bytes b → a ≡ b
audits_once bytes a b x y =
    let same = one_cut bytes x.journal x.behind y.journal y.behind x.cut y.cut in
    parts_once x.journal x.behind a b x.judged
    (subst (λ (d : List ℕ). JudgesParts x.journal d b) (sym same.1) (subst (λ (j : List ℕ). JudgesParts j y.behind b) (sym same.0) y.judged))

-- what stands behind a journal is refused as a day file, and the command refuses the bytes so
module _ (bytes front rest : List ℕ) (cut : IsCutBehindEnd bytes front rest) (history : List Entry) (read : IsJournalOf history front) where
  pub refused_day : (refused : FileRefusal) (r : Refusal) → IsRefusedAs (day_of rest) refused → IsAnswerTo refused r → IsRefusalOf audit bytes r
  refused_day (file.Refused row cause) (refusal.Refused status line) is answers = record {
    journal = front;
    behind = rest;
    cut = cut;
    judged = inr (history, read, subst (λ (told : Result DayParts (ℕ × Cause)). JudgesHistory history told (Some (record { status = status; line = string_bytes line }))) (sym is) (ap Some answers));
  }
  refused_day file.NoMemory (refusal.Refused status line) is answers = absurd answers
  refused_day refused refusal.NoMemory is answers = tt

  module _ (day : DayParts) (day_read : day_of rest ≡ Ok day) where
    judged : (verdict : Verdict) (judgement : Option Answer) → IsVerdict day.base day.day history verdict → answer_to_verdict verdict ≡ judgement → JudgesAudit bytes judgement
    judged verdict judgement right is = record {
      journal = front;
      behind = rest;
      cut = cut;
      judged = inr (history, read, subst (λ (told : Result DayParts (ℕ × Cause)). JudgesHistory history told judgement) (sym day_read) (verdict, right, is));
    }

    -- the history is not legal, and the command refuses the bytes for its first bad entry
    pub refused_entry : (n : ℕ) → IsVerdict day.base day.day history (Bad n) → (r : Refusal) → IsCommandAnswer (answer_to_entry n) r → IsRefusalOf audit bytes r
    refused_entry n bad (refusal.Refused status line) answers = judged (Bad n) (Some (record { status = status; line = string_bytes line })) bad (ap Some answers)
    refused_entry n bad refusal.NoMemory answers = tt

    -- the history is legal, and the command says so
    pub audit_made : IsVerdict day.base day.day history Legal → (text : List ℕ) → text ≡ legal_history_line (length history) → Makes audit bytes text
    audit_made legal text is = record {
      taken = judged Legal None legal refl;
      output = record {
        journal = front;
        behind = rest;
        cut = cut;
        history = history;
        read = read;
        file = day;
        day_read = day_read;
        legal = legal;
        line = is;
      };
      only = λ free other h.
          let same = one_cut bytes front rest h.journal h.behind cut h.cut in
          let theirs : IsJournalOf h.history front = subst (IsJournalOf h.history) (sym same.0) h.read in
          h.line ∙ (ap (λ (es : List Entry). legal_history_line (length es)) (one_history h.history history front theirs read) ∙ sym is);
    }
