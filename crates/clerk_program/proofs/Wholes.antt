-- Bytes are judged as a whole journal in one way alone, whatever goes on then.
use Rattle.std.proofs.Common.{◌≡◌, ℕ, List, Option, Some, None, length, refl, ap, sym, subst, ◌∙◌, inl, inr}
use Rattle.std.specs.Prelude.{Result, Ok, Err}
use Rattle.day_text.specs.Days.{DayParts, day_of}
use Rattle.day_text.specs.Records.{Row, rows_of}
use Rattle.day_text.specs.declared.refusal.Cause.{Cause}
use Rattle.day_text.proofs.CommandRows.{rows_one}
use Rattle.office_words.specs.declared.entry.Entry.{Entry}
use Rattle.journal_reader.specs.Cuts.{IsCutBehindEnd}
use Rattle.journal_reader.specs.Journals.{IsJournalOf}
use Rattle.journal_reader.specs.declared.refusal.JournalRefusal.TheVariants as text
use Rattle.journal_reader.proofs.Answers.{one_answer}
use Rattle.journal_reader.proofs.OneCut.{one_cut}
use Rattle.journal_reader.proofs.Whole.{one_history}
use Rattle.journal_audit.specs.declared.verdict.Verdict.{Verdict}
use Rattle.journal_audit.specs.declared.verdict.Verdict.TheVariants.{Bad, Legal}
use Rattle.journal_whole.specs.Wholes.{IsWholeness}
use Rattle.journal_whole.specs.declared.wholeness.Wholeness.{Wholeness}
use Rattle.journal_whole.specs.declared.wholeness.Wholeness.TheVariants.{Lacks, Strays, Whole}
use Rattle.journal_whole.proofs.Fronts.{wholeness_one}
use Rattle.permit_program.specs.Audit.{answer_to_line}
use Rattle.permit_program.specs.Command.{Answer}
use Rattle.clerk_program.specs.WholeJournals.{GoesOn, HasSizes, IsOfficeVerdict, IsWholeJournal, JudgesCommands, JudgesEntries, JudgesHistory, JudgesParts, JudgesSizes, JudgesWhole, JudgesWholeness, answer_to_lack}
use Rattle.clerk_program.proofs.Served.{kept, serves, whole_of}
use Rattle.clerk_program.proofs.Verdicts.{office_verdicts_one}

-- what goes on comes to one judgement
abbrev pub ComesToOne : GoesOn → Type 0
ComesToOne Goes = (f : DayParts) (es : List Entry) (a b : Option Answer) → Goes f es a → Goes f es b → a ≡ b

module _ (Goes : GoesOn) (one : ComesToOne Goes) where
  wholeness_once : (rows : List Row) (f : DayParts) (es : List Entry) (w : Wholeness) (a b : Option Answer) → JudgesWholeness rows (Goes f es) w a
      → JudgesWholeness rows (Goes f es) w b → a ≡ b
  wholeness_once rows f es Whole a b is is' = one f es a b is is'
  wholeness_once rows f es (Strays n) a b is is' = sym is ∙ is'
  wholeness_once rows f es (Lacks k) a b (row, at, is) (other, at', is') =
      sym is ∙ (ap (λ n. Some (answer_to_lack n)) (sym (rows_one rows k row other at at')) ∙ is')

  commands_once : (rows : List Row) (f : DayParts) (es : List Entry) (a b : Option Answer) → JudgesCommands Goes rows f es a → JudgesCommands Goes rows f es b → a ≡ b
  commands_once rows f es a b (w, right, is) (v, also, is') =
      wholeness_once rows f es w a b is
      (subst (λ (u : Wholeness). JudgesWholeness rows (Goes f es) u b) (wholeness_one (length f.actors) f.commands es v w also right) is')

  entries_once : (rows : List Row) (f : DayParts) (es : List Entry) (v : Verdict) (a b : Option Answer) → JudgesEntries Goes rows f es v a → JudgesEntries Goes rows f es v b → a ≡ b
  entries_once rows f es Legal a b is is' = commands_once rows f es a b is is'
  entries_once rows f es (Bad n) a b is is' = sym is ∙ is'

  history_once : (rows : List Row) (es : List Entry) (told : Result DayParts (ℕ × Cause)) (a b : Option Answer) → JudgesHistory Goes rows es told a → JudgesHistory Goes rows es told b → a ≡ b
  history_once rows es (Ok f) a b (v, right, is) (w, also, is') =
      entries_once rows f es v a b is (subst (λ (u : Verdict). JudgesEntries Goes rows f es u b) (office_verdicts_one f.base f.day es w v also right) is')
  history_once rows es (Err refused) a b is is' = sym is ∙ is'

  parts_once : (journal behind : List ℕ) (a b : Option Answer) → JudgesParts Goes journal behind a → JudgesParts Goes journal behind b → a ≡ b
  parts_once journal behind a b (inl (row, bad, is)) (inl (row', bad', is')) =
      let same = one_answer journal (Err (text.BadLine row)) (Err (text.BadLine row')) bad bad' (λ e. absurd (cc e)) (λ e. absurd (cc e)) in
      let rows : row ≡ row' = cc same in
      sym is ∙ (ap (λ n. Some (answer_to_line n)) rows ∙ is')
  parts_once journal behind a b (inl (row, bad, is)) (inr (history, read, judged)) =
      absurd (cc (one_answer journal (Err (text.BadLine row)) (Ok history) bad read (λ e. absurd (cc e)) (λ e. absurd (cc e))))
  parts_once journal behind a b (inr (history, read, judged)) (inl (row, bad, is)) =
      absurd (cc (one_answer journal (Ok history) (Err (text.BadLine row)) read bad (λ e. absurd (cc e)) (λ e. absurd (cc e))))
  parts_once journal behind a b (inr (h, read, judged)) (inr (k, read', judged')) =
      history_once (rows_of behind) h (day_of behind) a b judged
      (subst (λ (es : List Entry). JudgesHistory Goes (rows_of behind) es (day_of behind) b) (sym (one_history h k journal read read')) judged')

  sizes_once : (journal behind : List ℕ) (a b : Option Answer) → JudgesSizes Goes journal behind a → JudgesSizes Goes journal behind b → a ≡ b
  sizes_once journal behind a b (inl (large, is)) (inl (large2, is')) = sym is ∙ is'
  sizes_once journal behind a b (inl (large, is)) (inr (sizes, parts)) = absurd (large sizes)
  sizes_once journal behind a b (inr (sizes, parts)) (inl (large, is)) = absurd (large sizes)
  sizes_once journal behind a b (inr (sizes, parts)) (inr (sizes', parts')) = parts_once journal behind a b parts parts'

  pub judged_once : (bytes : List ℕ) (a b : Option Answer) → JudgesWhole Goes bytes a → JudgesWhole Goes bytes b → a ≡ b
  judged_once bytes a b x y =
      let same = one_cut bytes x.journal x.behind y.journal y.behind x.cut y.cut in
      sizes_once x.journal x.behind a b x.judged
      (subst (λ (d : List ℕ). JudgesSizes Goes x.journal d b) (sym same.1) (subst (λ (j : List ℕ). JudgesSizes Goes j y.behind b) (sym same.0) y.judged))

-- the same judgement where more may go on
module _ (Goes More : GoesOn) (up : (f : DayParts) (es : List Entry) (j : Option Answer) → Goes f es j → More f es j) where
  wholeness_more : (rows : List Row) (f : DayParts) (es : List Entry) (w : Wholeness) (j : Option Answer) → JudgesWholeness rows (Goes f es) w j → JudgesWholeness rows (More f es) w j
  wholeness_more rows f es Whole j is = up f es j is
  wholeness_more rows f es (Strays n) j is = is
  wholeness_more rows f es (Lacks k) j is = is

  entries_more : (rows : List Row) (f : DayParts) (es : List Entry) (v : Verdict) (j : Option Answer) → JudgesEntries Goes rows f es v j → JudgesEntries More rows f es v j
  entries_more rows f es Legal j (w, right, is) = (w, right, wholeness_more rows f es w j is)
  entries_more rows f es (Bad n) j is = is

  history_more : (rows : List Row) (es : List Entry) (told : Result DayParts (ℕ × Cause)) (j : Option Answer) → JudgesHistory Goes rows es told j → JudgesHistory More rows es told j
  history_more rows es (Ok f) j (v, right, is) = (v, right, entries_more rows f es v j is)
  history_more rows es (Err refused) j is = is

  sizes_more : (journal behind : List ℕ) (j : Option Answer) → JudgesSizes Goes journal behind j → JudgesSizes More journal behind j
  sizes_more journal behind j (inl (large, is)) = inl (large, is)
  sizes_more journal behind j (inr (sizes, inl (row, bad, is))) = inr (sizes, inl (row, bad, is))
  sizes_more journal behind j (inr (sizes, inr (history, read, judged))) =
      inr (sizes, inr (history, read, history_more (rows_of behind) history (day_of behind) j judged))

  pub judged_more : (bytes : List ℕ) (j : Option Answer) → JudgesWhole Goes bytes j → JudgesWhole More bytes j
  judged_more bytes j x = record { journal = x.journal; behind = x.behind; cut = x.cut; judged = sizes_more x.journal x.behind j x.judged }

-- a whole journal goes on
pub goes_on : (Goes : GoesOn) (bytes : List ℕ) (j : Option Answer) (w : IsWholeJournal bytes) → Goes w.file w.history j → JudgesWhole Goes bytes j
goes_on Goes bytes j w is =
    let held = kept w.behind w.file w.day_read w.history w.served in
    let whole = whole_of w.behind w.file w.day_read w.history w.served in
    let judged : JudgesHistory Goes (rows_of w.behind) w.history (day_of w.behind) j =
    subst (λ (told : Result DayParts (ℕ × Cause)). JudgesHistory Goes (rows_of w.behind) w.history told j) (sym w.day_read) (Legal, held, (Whole, whole, is)) in
    record { journal = w.journal; behind = w.behind; cut = w.cut; judged = inr (w.sizes, inr (w.history, w.read, judged)) }

-- what is not refused is a whole journal, and goes on
module _ (Goes : GoesOn) (bytes journal behind : List ℕ) (cut : IsCutBehindEnd bytes journal behind) (sizes : HasSizes journal behind) (history : List Entry)
    (read : IsJournalOf history journal) where
  abbrev GoesOnFrom : Type 0
  GoesOnFrom = (w : IsWholeJournal bytes) × Goes w.file w.history None

  by_wholeness : (f : DayParts) → day_of behind ≡ Ok f → IsOfficeVerdict f.base f.day history Legal → (w : Wholeness) → IsWholeness (length f.actors) f.commands history w
      → JudgesWholeness (rows_of behind) (Goes f history) w None → GoesOnFrom
  by_wholeness f is held Whole whole taken = (
    record {
      journal = journal;
      behind = behind;
      cut = cut;
      sizes = sizes;
      history = history;
      read = read;
      file = f;
      day_read = is;
      served = serves behind f is history held.legal whole;
    },
    taken,
  )
  by_wholeness f is held (Strays n) said taken = absurd (cc taken)
  by_wholeness f is held (Lacks k) said (row, at, taken) = absurd (cc taken)

  by_verdict : (f : DayParts) → day_of behind ≡ Ok f → (v : Verdict) → IsOfficeVerdict f.base f.day history v → JudgesEntries Goes (rows_of behind) f history v None → GoesOnFrom
  by_verdict f is Legal held (w, said, taken) = by_wholeness f is held w said taken
  by_verdict f is (Bad n) held taken = absurd (cc taken)

  by_file : (told : Result DayParts (ℕ × Cause)) → day_of behind ≡ told → JudgesHistory Goes (rows_of behind) history told None → GoesOnFrom
  by_file (Ok f) is (v, right, judged) = by_verdict f is v right judged
  by_file (Err refused) is taken = absurd (cc taken)

by_parts : (Goes : GoesOn) (bytes journal behind : List ℕ) → IsCutBehindEnd bytes journal behind → JudgesSizes Goes journal behind None
    → (w : IsWholeJournal bytes) × Goes w.file w.history None
by_parts Goes bytes journal behind cut (inl (large, taken)) = absurd (cc taken)
by_parts Goes bytes journal behind cut (inr (sizes, inl (row, bad, taken))) = absurd (cc taken)
by_parts Goes bytes journal behind cut (inr (sizes, inr (history, read, judged))) = by_file Goes bytes journal behind cut sizes history read (day_of behind) refl judged

pub whole_where_taken : (Goes : GoesOn) (bytes : List ℕ) → JudgesWhole Goes bytes None → (w : IsWholeJournal bytes) × Goes w.file w.history None
whole_where_taken Goes bytes x = by_parts Goes bytes x.journal x.behind x.cut x.judged

-- bytes are one whole journal
pub one_whole : (bytes : List ℕ) (v w : IsWholeJournal bytes) → (v.history ≡ w.history) × (v.file ≡ w.file)
one_whole bytes v w =
    let same = one_cut bytes v.journal v.behind w.journal w.behind v.cut w.cut in
    let theirs : IsJournalOf w.history v.journal = subst (IsJournalOf w.history) (sym same.0) w.read in
    let files : Ok v.file ≡ Ok w.file = sym v.day_read ∙ (ap day_of same.1 ∙ w.day_read) in
    (one_history v.history w.history v.journal v.read theirs, cc files)
