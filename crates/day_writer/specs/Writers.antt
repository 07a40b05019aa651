-- What a writer of records into memory was given to write.
use Rattle.std.specs.Prelude.{◌≡◌, ◌==◌, ◌<◌, ◌&&◌, ◌||◌, ◌++◌, ◌∷◌, ℕ, false, not, List, [], length, Vec, Option, Some, None, unwrap_or}
use Rattle.std.specs.Global.{Global}
use Rattle.csv.specs.Writing.{default_writer, fields_written, has_written, is_blank, row_body, text_written, writer_setup}
use Rattle.csv.specs.declared.writer.Writer.{Writer}
use Rattle.day_text.specs.Records.{Row}

-- the text that a writer was given to write; of none, nothing
abbrev pub given_text : Option (Writer (Vec ℕ Global)) → List ℕ
given_text None = []
given_text (Some w) = unwrap_or (text_written (λ v. Some v.items) w) []

-- the writer stands before a record, and writes as the default one does
pub record IsBetweenRecords (w : Writer (Vec ℕ Global)) : Type 0 where
  pub setup : writer_setup w ≡ default_writer
  pub fields : fields_written w ≡ 0
  pub blank : has_written w ≡ false

-- the writer was given this text and then these fields of a record, and writes as the default one does
pub record IsBehind (text : List ℕ) (fields : Row) (w : Writer (Vec ℕ Global)) : Type 0 where
  pub setup : writer_setup w ≡ default_writer
  pub given : given_text (Some w) ≡ text ++ row_body default_writer fields
  pub count : fields_written w ≡ length fields
  pub blank : is_blank default_writer fields ≡ (not (has_written w) && ((length fields == 0) || (length fields == 1)))

-- behind some fields, fewer than a hundred, the writer was given this one too
abbrev pub GoesOn : Writer (Vec ℕ Global) → List ℕ → Writer (Vec ℕ Global) → Type 0
GoesOn old field new =
    (text : List ℕ) (fields : Row) → length fields < 100 → IsBehind text fields old → IsBehind text (fields ++ (field ∷ [])) new
