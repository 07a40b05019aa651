-- What the lines of refusals keep.
use Rattle.std.specs.Prelude.{◌≡◌, ℕ, ◌<◌, ◌^◌, IfSome}
use Rattle.day_text.specs.declared.refusal.Cause.{Cause}
use Rattle.report_text.specs.RefusalLines.{cause_number_of, refusal_line_of}

-- the number of a cause, if it has one, fits 64 bits
abbrev pub HasSmallNumber : Cause → Type 0
HasSmallNumber cause = IfSome (cause_number_of cause) (λ number. number < 2 ^ 64)

-- two refusals have two lines: where the lines are the same, the rows are and the causes are
abbrev pub RefusalLinesDiffer : Type 0
RefusalLinesDiffer =
    (row row' : ℕ) (cause cause' : Cause) → row < 2 ^ 64 → row' < 2 ^ 64 → HasSmallNumber cause → HasSmallNumber cause'
    → refusal_line_of row cause ≡ refusal_line_of row' cause' → (row ≡ row') × (cause ≡ cause')
