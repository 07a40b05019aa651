use Rattle.std.proofs.Common.{◌∙◌, ◌∷◌, ◌++◌, [], ap, arith, length-append, refl, rules}
use Rattle.std.specs.Prelude.{Some}
use Rattle.day_text.specs.Records.{Row}
use Rattle.day_writer.specs.Texts.{line}
use Rattle.day_writer.specs.Writers.{given_text}
use Rattle.day_writer.proofs.Writing.{blanks_end, blanks_more, fields_more, row_ends, starts}
use Rattle.day_writer.proofs.page.write_row.Goals as goal
use Rattle.day_writer.proofs.page.write_row.Goals.{in-Ok, in-Err}

pub fields-init : goal.fields-init
fields-init g c = rw c.as_bytes.ensures.value at (c.in_ok-write_field.ensures (given_text (Some c.args.writer.now)) [] (omega arith) (starts c.args.writer.now c.requires.ready))

pub fields-preserved : goal.fields-preserved
fields-preserved g c =
    fields_more g.F.FieldText.text c.args.fields.now c.fields.field-index c.field-item.result _ _ c.as_slice.result.now _ _ c.fields-test.true c.requires.few (search rules) c.fields.invariant c.in_ok-write_field-2.ensures

pub blanks-preserved : goal.blanks-preserved
blanks-preserved g c =
    let (done, behind, same, small) = c.blanks.invariant in
    let size = length-append done ([] ∷ []) in (
      done ++ ([] ∷ []),
      c.in_ok-write_field-3.ensures _ done (omega (arith, small, c.blanks-test.true)) behind,
      blanks_more done (done ++ ([] ∷ [])) _ c.blanks.counter 7 c.blanks-test.true same refl,
      omega (arith, size, small),
    )

pub returns-clause-text : goal.returns-clause-text
returns-clause-text g c = elim c.match-end_record.branch [
  | in-Ok w ↦
      let (done, behind, same, small) = c.blanks.invariant in
      rw w.result-is (row_ends c.blanks.writer c.end_record.new.self _ done behind w.in-Ok.ensures.bytes
      ∙ ap (λ (fields : Row). given_text (Some c.args.writer.now) ++ line fields) (blanks_end done _ c.blanks.counter 7 c.blanks-test.false same))
  | in-Err w ↦ rw w.result-is tt
]
