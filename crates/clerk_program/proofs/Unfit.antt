-- How bytes are refused as no whole journal, and what they are else.
use Rattle.std.proofs.Common.{◌≡◌, ℕ, List, Option, Some, ap, sym, subst, inl, inr}
use Rattle.std.specs.Prelude.{Result, Ok}
use Rattle.std.specs.String.{string_bytes}
use Rattle.day_text.specs.Days.{DayParts, day_of}
use Rattle.day_text.specs.Records.{rows_of}
use Rattle.day_text.specs.Refusals.{IsRefusedAs}
use Rattle.day_text.specs.declared.refusal.Cause.{Cause}
use Rattle.day_text.specs.declared.refusal.FileRefusal.{FileRefusal}
use Rattle.day_text.specs.declared.refusal.FileRefusal.TheVariants as file
use Rattle.office_words.specs.declared.entry.Entry.{Entry}
use Rattle.journal_reader.specs.Cuts.{IsCutBehindEnd}
use Rattle.journal_reader.specs.Journals.{IsJournalOf, IsWhy}
use Rattle.journal_reader.specs.declared.refusal.JournalRefusal.{JournalRefusal}
use Rattle.journal_reader.specs.declared.refusal.JournalRefusal.TheVariants as text
use Rattle.permit_program.specs.Audit.{IsAnswerToText}
use Rattle.permit_program.specs.Command.{Answer, IsAnswerTo, IsCommandAnswer}
use Rattle.permit_program.specs.declared.refusal.Refusal.{Refusal}
use Rattle.permit_program.specs.declared.refusal.Refusal.TheVariants as refusal
use Rattle.clerk_program.specs.declared.whole_day.WholeDay.{WholeDay}
use Rattle.clerk_program.specs.Judging.{IsDayOf, IsHistoryRefusal, IsUnfit, IsWholeDay, Stops}
use Rattle.clerk_program.specs.WholeJournals.{HasSizes, JudgesHistory, JudgesSizes, JudgesWhole, answer_to_bytes}
use Rattle.clerk_program.proofs.Served.{serves}

module _ (bytes front rest : List ℕ) (cut : IsCutBehindEnd bytes front rest) where
  judges : (judgement : Option Answer) → JudgesSizes Stops front rest judgement → JudgesWhole Stops bytes judgement
  judges judgement judged = record { journal = front; behind = rest; cut = cut; judged = judged }

  pub unfit_sizes : (HasSizes front rest → ⊥) → (r : Refusal) → IsCommandAnswer answer_to_bytes r → IsUnfit bytes r
  unfit_sizes large (refusal.Refused status line) answers = judges (Some (record { status = status; line = string_bytes line })) (inl (large, ap Some answers))
  unfit_sizes large refusal.NoMemory answers = tt

  module _ (sizes : HasSizes front rest) where
    pub unfit_text : (why : JournalRefusal) → IsWhy front why → (r : Refusal) → IsAnswerToText why r → IsUnfit bytes r
    unfit_text (text.BadLine row) bad (refusal.Refused status line) answers =
        judges (Some (record { status = status; line = string_bytes line })) (inr (sizes, inl (row, bad, ap Some answers)))
    unfit_text text.NoMemory bad (refusal.Refused status line) answers = absurd answers
    unfit_text why bad refusal.NoMemory answers = tt

    module _ (history : List Entry) (read : IsJournalOf history front) where
      of_history : (judgement : Option Answer) → JudgesHistory Stops (rows_of rest) history (day_of rest) judgement → JudgesWhole Stops bytes judgement
      of_history judgement judged = judges judgement (inr (sizes, inr (history, read, judged)))

      pub unfit_day : (refused : FileRefusal) (r : Refusal) → IsRefusedAs (day_of rest) refused → IsAnswerTo refused r → IsUnfit bytes r
      unfit_day (file.Refused row cause) (refusal.Refused status line) is answers =
          of_history (Some (record { status = status; line = string_bytes line }))
          (subst (λ (told : Result DayParts (ℕ × Cause)). JudgesHistory Stops (rows_of rest) history told (Some (record { status = status; line = string_bytes line }))) (sym is) (ap Some answers))
      unfit_day file.NoMemory (refusal.Refused status line) is answers = absurd answers
      unfit_day refused refusal.NoMemory is answers = tt

      module _ (day : DayParts) (day_read : day_of rest ≡ Ok day) where
        pub unfit_history : (r : Refusal) → IsHistoryRefusal (rows_of rest) day history r → IsUnfit bytes r
        unfit_history (refusal.Refused status line) refused =
            of_history (Some (record { status = status; line = string_bytes line }))
            (subst (λ (told : Result DayParts (ℕ × Cause)). JudgesHistory Stops (rows_of rest) history told (Some (record { status = status; line = string_bytes line }))) (sym day_read) refused)
        unfit_history refusal.NoMemory refused = tt

        -- what is not refused is a whole journal, and this is its day
        pub whole_day : (d : WholeDay) → IsDayOf day history d → IsWholeDay bytes d
        whole_day d h = record {
          whole = record {
            journal = front;
            behind = rest;
            cut = cut;
            sizes = sizes;
            history = history;
            read = read;
            file = day;
            day_read = day_read;
            served = serves rest day day_read history h.kept.legal h.whole;
          };
          file = h.file;
          history = h.history;
          left = h.left;
        }
