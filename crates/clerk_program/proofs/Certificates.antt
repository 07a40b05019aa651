-- What `certify` makes of bytes keeps its promise and is the only text that does, and it is made where bytes are taken.
use Rattle.std.proofs.Common.{◌≡◌, ℕ, List, Some, None, length, refl, ap, sym, ◌∙◌}
use Rattle.std.specs.String.{string_bytes}
use Rattle.office_words.specs.declared.entry.Entry.{Entry}
use Rattle.permit_program.specs.Command.{IsRefusalOf, Makes}
use Rattle.permit_program.specs.declared.refusal.Refusal.{Refusal}
use Rattle.permit_program.specs.declared.refusal.Refusal.TheVariants as refusal
use Rattle.clerk_program.specs.Certify.{IsTaken, certify, whole_history_line}
use Rattle.clerk_program.specs.Judging.{IsUnfit, Stops}
use Rattle.clerk_program.specs.Laws.{TakesWhatItPromises}
use Rattle.clerk_program.specs.WholeJournals.{IsWholeJournal}
use Rattle.clerk_program.proofs.Wholes.{ComesToOne, goes_on, judged_more, one_whole, whole_where_taken}

pub taken_once : ComesToOne IsTaken
taken_once f es a b is is' = sym is ∙ is'

pub refused_certificate : (bytes : List ℕ) (r : Refusal) → IsUnfit bytes r → IsRefusalOf certify bytes r
refused_certificate bytes (refusal.Refused status line) unfit =
    judged_more Stops IsTaken (λ f es j stops. absurd stops) bytes (Some (record { status = status; line = string_bytes line })) unfit
refused_certificate bytes refusal.NoMemory unfit = tt

pub certificate_made : (bytes text : List ℕ) (w : IsWholeJournal bytes) → text ≡ whole_history_line (length w.history) → Makes certify bytes text
certificate_made bytes text w is = record {
  taken = goes_on IsTaken bytes None w refl;
  output = record { whole = w; line = is };
  only = λ free other o. o.line ∙ (ap (λ (es : List Entry). whole_history_line (length es)) (one_whole bytes o.whole w).0 ∙ sym is);
}

pub taken_where_promised : TakesWhatItPromises
taken_where_promised bytes = (
  λ x. let w = (whole_where_taken IsTaken bytes x).0 in (whole_history_line (length w.history), record { whole = w; line = refl }),
  λ p. goes_on IsTaken bytes None p.1.whole refl,
)
