use Rattle.std.proofs.Common.{◌≡◌, ◌≤◌, ◌+◌, ◌-◌, ◌∷◌, ◌++◌, [], length, map, replicate, take}
use Rattle.std.specs.Prelude.{Some}
use Rattle.day_text.specs.Records.{Row}
use Rattle.day_writer.specs.Texts.{row}
use Rattle.day_writer.specs.Writers.{IsBehind, given_text}
use Rattle.day_writer.proofs.page.write_row.Given as goal

abbrev pub invariant-fields : goal.invariant-fields
invariant-fields g l = IsBehind (given_text (Some l.fn.writer)) (l.kind ∷ map g.F.FieldText.text (take l.field-index l.fields)) l.writer

abbrev pub invariant-blanks : goal.invariant-blanks
invariant-blanks g l = (done : Row) × IsBehind (given_text (Some l.fn.writer)) done l.writer
    × (done ++ replicate (7 - l.counter) [] ≡ row (l.kind ∷ map g.F.FieldText.text l.fields)) × (length done ≤ l.counter + 1)
