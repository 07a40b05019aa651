-- The records of a file, judged one after another over the whole list of them.
use Rattle.std.specs.Prelude.{ℕ, ◌+◌, ◌-◌, Bool, ◌&&◌, ◌==◌, if◌then◌else◌, List, [], ◌∷◌, length, drop, Option, Result, Ok, Err}
use Rattle.std.specs.List.{list_all}
use Rattle.std.specs.Str.{bytes_eq, is_utf8}
use Rattle.csv.specs.Reading.{default_config, records, strip_bom}
use Rattle.day_text.specs.Causes.{demand, or_bad}
use Rattle.day_text.specs.Fields.{day_field, field_of, name_field, number_field}
use Rattle.day_text.specs.declared.refusal.Cause.{Cause}
use Rattle.day_text.specs.declared.refusal.Cause.TheVariants as why
use Rattle.day_text.specs.declared.refusal.RecordCause.TheVariants as bad

-- the fields of a record
abbrev pub Row : Type 0
Row = List (List ℕ)

-- the records of some bytes, as a reader without a header row gives them
abbrev pub rows_of : List ℕ → List Row
rows_of bytes = records default_config (strip_bom bytes)

-- the record is of this kind
abbrev pub has_kind : List ℕ → Row → Bool
has_kind name fields = bytes_eq (field_of fields 0) name

-- whether a text is empty
abbrev pub is_empty_text : List ℕ → Bool
is_empty_text text = length text == 0

-- the fields from this place on, counted from 0, are empty
abbrev pub is_blank_from : ℕ → Row → Bool
is_blank_from first fields = list_all is_empty_text (drop first fields)

-- a record of so many fields, the kind among them: those behind are empty
abbrev pub has_only : ℕ → Row → Result (Unit {0}) Cause
has_only count fields = demand (is_blank_from count fields) bad.Extra

-- the name in a field, counted from 1
abbrev pub name_in : ℕ → Row → Result (List ℕ) Cause
name_in number fields = or_bad (bad.Field number) (name_field (field_of fields (number - 1)))

-- the number in a field, counted from 1
abbrev pub number_in : ℕ → Row → Result ℕ Cause
number_in number fields = or_bad (bad.Field number) (number_field (field_of fields (number - 1)))

-- the day in a field, counted from 1; none where the calendar lacks it
abbrev pub day_in : ℕ → Row → Result (Option (List ℕ)) Cause
day_in number fields = or_bad (bad.Field number) (day_field (field_of fields (number - 1)))

-- a record of text with eight fields
abbrev pub is_record : Row → Bool
is_record fields = (length fields == 8) && list_all is_utf8 fields

-- where a record leads from what was said so far: it has eight fields of text, and then its judge decides
abbrev pub judge_record : {P : Type 0} → (P → Row → Result P Cause) → P → Row → Result P Cause
judge_record judge so_far fields = if is_record fields then judge so_far fields else Err (why.Bad bad.Fields)

-- the next row goes on from where this one leads, or this one is refused
abbrev pub go_on : {P T : Type 0} → ℕ → Result P Cause → (P → Result T (ℕ × Cause)) → Result T (ℕ × Cause)
go_on row (Ok next) more = more next
go_on row (Err cause) more = Err (row, cause)

-- where the records lead from this row on, with the number of the row after the last; or the first row that is refused and
-- its cause
abbrev pub judged : {P : Type 0} → (P → Row → Result P Cause) → ℕ → P → List Row → Result (ℕ × P) (ℕ × Cause)
judged judge row so_far [] = Ok (row, so_far)
judged judge row so_far (fields ∷ rows) = go_on row (judge_record judge so_far fields) (λ next. judged judge (row + 1) next rows)
