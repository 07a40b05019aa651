-- The texts of fields.
use Rattle.std.specs.Prelude.{ℕ, List}
use Rattle.std.specs.Fmt.{decimal}
use Rattle.day_writer.specs.Texts.{axles_text}
use Rattle.day_writer.specs.declared.field.Field.{Field}
use Rattle.day_writer.specs.declared.field.Field.TheVariants.{Axles, Day, Name, Number, Text}

-- a text, a name or a day by itself, a number in decimal digits, the axles of a train
abbrev pub field_text : Field → List ℕ
field_text (Text text) = text.now
field_text (Name name) = name
field_text (Number n) = decimal n
field_text (Day day) = day
field_text (Axles train) = axles_text train.now
