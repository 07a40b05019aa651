-- The texts of fields.
use Rattle.std.specs.Prelude.{ℕ, List}
use Rattle.std.specs.Fmt.{decimal}
use Rattle.day_writer.specs.Texts.{axles_text}
use Rattle.day_maker.specs.Made.{cell, numbered_name}
use Rattle.day_maker.specs.declared.field.Field.{Field}
use Rattle.day_maker.specs.declared.field.Field.TheVariants.{Axles, Cell, Number, Numbered, Word}

abbrev pub field_text : Field → List ℕ
field_text (Word word) = word.now
field_text (Number n) = decimal n
field_text (Numbered letter n) = numbered_name letter n
field_text (Cell letter r c) = cell letter r c
field_text (Axles axles) = axles_text axles.now
