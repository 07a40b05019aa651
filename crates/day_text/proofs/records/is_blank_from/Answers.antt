use Rattle.std.proofs.Common.{◌<◌, ◌∙◌, ap, sym, length, arith}
use Rattle.csv.specs.Records.{fields_of}
use Rattle.csv.proofs.RecordFacts.{cut-length}
use Rattle.day_text.specs.Records.{is_empty_text}
use Rattle.day_text.proofs.Blanks.{blank_no, blank_yes}
use Rattle.day_text.proofs.records.is_blank_from.Goals as goal

pub returns-then-not-is_empty : goal.returns-then-not-is_empty
returns-then-not-is_empty c =
    let row = c.args.row.now in
    let within : c.loop-i.i < length (fields_of row) = omega (arith, cut-length 0 row.ends row.bytes) in
    sym (sym c.loop-i.invariant ∙ blank_no (fields_of row) c.loop-i.i within (ap is_empty_text (sym c.field.ensures) ∙ (sym c.is_empty.ensures ∙ c.if-not-is_empty.true)))

pub loop-i-preserved : goal.loop-i-preserved
loop-i-preserved c =
    let row = c.args.row.now in
    let within : c.loop-i.i < length (fields_of row) = omega (arith, cut-length 0 row.ends row.bytes) in
    sym (blank_yes (fields_of row) c.loop-i.i within (ap is_empty_text (sym c.field.ensures) ∙ (sym c.is_empty.ensures ∙ c.if-not-is_empty.false))) ∙ c.loop-i.invariant
