-- The line of a refusal, and its status. Words are separated by one space, and numbers are decimal.
use Rattle.std.specs.Prelude.{ℕ, List, [], ◌∷◌, ◌++◌, codes, Option, Some, None}
use Rattle.std.specs.Fmt.{decimal}
use Rattle.day_text.specs.declared.refusal.Cause.{Cause}
use Rattle.day_text.specs.declared.refusal.Cause.TheVariants.{Bad, TooMany}
use Rattle.day_text.specs.declared.refusal.RecordCause.{RecordCause}
use Rattle.day_text.specs.declared.refusal.RecordCause.TheVariants as bad
use Rattle.day_text.specs.declared.refusal.Kind.{Kind}
use Rattle.day_text.specs.declared.refusal.Kind.TheVariants as kind

-- the status: 5 where the record is bad, and 6 where it is one too many of its kind
abbrev pub refusal_status_of : Cause → ℕ
refusal_status_of (Bad cause) = 5
refusal_status_of (TooMany kind) = 6

-- the word for why a record is bad
abbrev pub bad_word : RecordCause → List ℕ
bad_word bad.Fields = codes "fields"
bad_word bad.Kind = codes "kind"
bad_word bad.Order = codes "order"
bad_word bad.Extra = codes "extra"
bad_word (bad.Field at) = codes "field"
bad_word bad.Same = codes "same"
bad_word (bad.Unknown at) = codes "unknown"
bad_word (bad.Range at) = codes "range"
bad_word (bad.Train rule) = codes "train"
bad_word bad.SamePlace = codes "same-place"
bad_word bad.BrokenRoute = codes "broken-route"
bad_word bad.DayOrder = codes "day-order"
bad_word bad.AnnualDays = codes "annual-days"
bad_word bad.End = codes "end"

-- the word for what there is one too many of
abbrev pub kind_word : Kind → List ℕ
kind_word kind.Nodes = codes "nodes"
kind_word kind.Segments = codes "segments"
kind_word kind.Spans = codes "spans"
kind_word kind.SpansOfSegment = codes "spans-of-segment"
kind_word kind.Trucks = codes "trucks"
kind_word kind.Actors = codes "actors"
kind_word kind.Commands = codes "commands"
kind_word kind.Probes = codes "probes"

-- the word for a cause
abbrev pub word_of : Cause → List ℕ
word_of (Bad cause) = bad_word cause
word_of (TooMany kind) = kind_word kind

-- the number behind the word of a bad record, if any: of a field, counted from 1 with the kind among them, or of the rule that
-- a train breaks
abbrev pub bad_number : RecordCause → Option ℕ
bad_number (bad.Field at) = Some at
bad_number (bad.Unknown at) = Some at
bad_number (bad.Range at) = Some at
bad_number (bad.Train rule) = Some rule
bad_number other = None

-- the number behind the word for a cause, if any: none where there is one too many
abbrev pub cause_number_of : Cause → Option ℕ
cause_number_of (Bad cause) = bad_number cause
cause_number_of (TooMany kind) = None

-- the end of the line, behind the word
abbrev pub ending : Option ℕ → List ℕ
ending None = 10 ∷ []
ending (Some number) = codes " " ++ (decimal number ++ (10 ∷ []))

-- refused: record ROW CAUSE, where the cause is its word and its number, if it has one
abbrev pub refusal_line_of : ℕ → Cause → List ℕ
refusal_line_of row cause =
    codes "refused: record " ++ (decimal row ++ (codes " " ++ (word_of cause ++ ending (cause_number_of cause))))
