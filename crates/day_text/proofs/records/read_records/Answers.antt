use Rattle.std.proofs.Common.{◌∙◌, ◌+◌, length, sym, refl, ap, inl, inr, arith}
use Rattle.csv.specs.Records.{fields_of}
use Rattle.csv.specs.Reading.{strip_bom}
use Rattle.day_text.specs.Records.{judged, rows_of}
use Rattle.day_text.proofs.Reading.{all_utf8, reading_end, reading_first, reading_more, reading_unequal, reading_utf8}
use Rattle.day_text.proofs.Rows.{rows_from}
use Rattle.day_text.proofs.Judging.{few_more, few_rows, told_more, told_no_record, told_refused}
use Rattle.day_text.proofs.records.read_records.Goals as goal

pub records-init : goal.records-init
records-init g c =
    let fr = c.from_reader-reader.ensures in
    let e = c.has_headers.ensures in
    let start = c.into_iter-record-iterator.ensures.into_iter_gives ∙ refl in
    let rdr = c.into_records-record-items.ensures.rdr in
    let left = c.into_records-record-items.ensures.left in
    rw (start, rdr) (
      rows_of c.args.bytes.now,
      (
        rw (e) at fr.trim ∙ c.new.ensures.trim,
        inr (inr (rw e at fr.has_headers, fr.headers)),
        left,
        rw e at fr.config ∙ c.new.ensures.config,
        rw e at fr.flexible ∙ c.new.ensures.flexible,
        fr.fresh,
        inl fr.expected,
        strip_bom c.args.bytes.now,
        fr.source,
        ap (λ q. rows_from q (strip_bom c.args.bytes.now)) fr.state,
      ),
      omega (arith, few_rows c.args.bytes.now),
      refl,
    )

pub step-requires : goal.step-requires
step-requires g c =
    let (rows, reading, few, same) = c.records.invariant in
    let x = rw (c.in-Some.is, c.in-Ok.is) at (c.next.ensures.steps reading.2 reading.0) in
    all_utf8 _ (x.0 reading.1).2

pub returns-in-Err-step : goal.returns-in-Err-step
returns-in-Err-step g c =
    let (rows, reading, few, same) = c.records.invariant in
    let x = rw (c.in-Some.is, c.in-Ok.is) at (c.next.ensures.steps reading.2 reading.0) in
    let m = reading_first c.records.record-iterator.rdr c.next.new.self.rdr c.records.record-iterator.left c.next.new.self.left rows c.in-Ok.record reading (x.0 reading.1, x.2, x.3) in
    rw c.at.ensures (told_refused g.P.Progress.judge c.records.row c.records.progress (fields_of c.in-Ok.record) m.0 rows c.in-Err-step.refusal (judged g.P.Progress.judge 1 c.args.start (rows_of c.args.bytes.now)) same m.1 c.in-Err-step.ensures.next)

pub returns-in-Utf8 : goal.returns-in-Utf8
returns-in-Utf8 g c =
    let (rows, reading, few, same) = c.records.invariant in
    let x = rw (c.in-Some.is, c.in-Err.is) at (c.next.ensures.steps reading.2 reading.0) in
    let m = reading_utf8 c.records.record-iterator.rdr c.next.new.self.rdr c.records.record-iterator.left c.next.new.self.left rows c.in-Err.e c.in-Utf8.pos c.in-Utf8.err reading (x.0 reading.1, x.2, x.3) (sym c.into_kind.ensures ∙ c.in-Utf8.is) in
    rw c.no_record.ensures (told_no_record g.P.Progress.judge c.records.row c.records.progress m.0 m.1 rows (judged g.P.Progress.judge 1 c.args.start (rows_of c.args.bytes.now)) same m.2 m.3)

pub returns-in-UnequalLengths : goal.returns-in-UnequalLengths
returns-in-UnequalLengths g c =
    let (rows, reading, few, same) = c.records.invariant in
    let x = rw (c.in-Some.is, c.in-Err.is) at (c.next.ensures.steps reading.2 reading.0) in
    let m = reading_unequal c.records.record-iterator.rdr c.next.new.self.rdr c.records.record-iterator.left c.next.new.self.left rows c.in-Err.e c.in-UnequalLengths.pos c.in-UnequalLengths.expected_len c.in-UnequalLengths.len reading (x.0 reading.1, x.2, x.3) (sym c.into_kind.ensures ∙ c.in-UnequalLengths.is) in
    rw c.no_record-in-UnequalLengths.ensures (told_no_record g.P.Progress.judge c.records.row c.records.progress m.0 m.1 rows (judged g.P.Progress.judge 1 c.args.start (rows_of c.args.bytes.now)) same m.2 m.3)

pub overflow_add-row : goal.overflow_add-row
overflow_add-row g c =
    let (rows, reading, few, same) = c.records.invariant in
    let x = rw (c.in-Some.is, c.in-Ok.is) at (c.next.ensures.steps reading.2 reading.0) in
    let m = reading_first c.records.record-iterator.rdr c.next.new.self.rdr c.records.record-iterator.left c.next.new.self.left rows c.in-Ok.record reading (x.0 reading.1, x.2, x.3) in
    omega (arith, few_more c.records.row (length c.args.bytes.now + 2) (fields_of c.in-Ok.record) m.0 rows few m.1)

pub records-preserved : goal.records-preserved
records-preserved g c =
    let (rows, reading, few, same) = c.records.invariant in
    let x = rw (c.in-Some.is, c.in-Ok.is) at (c.next.ensures.steps reading.2 reading.0) in
    let m = reading_more c.records.record-iterator.rdr c.next.new.self.rdr c.records.record-iterator.left c.next.new.self.left rows c.in-Ok.record reading (x.0 reading.1, x.2, x.3) c.in-Ok-step.ensures.eight in
    (m.0, m.2, few_more c.records.row (length c.args.bytes.now + 2) (fields_of c.in-Ok.record) m.0 rows few m.1, told_more g.P.Progress.judge c.records.row c.records.progress c.in-Ok-step.next (fields_of c.in-Ok.record) m.0 rows (judged g.P.Progress.judge 1 c.args.start (rows_of c.args.bytes.now)) same m.1 c.in-Ok-step.ensures.next)

pub returns : goal.returns
returns g c =
    let (rows, reading, few, same) = c.records.invariant in
    let x = rw c.in-None.is at (c.next.ensures.steps reading.2 reading.0) in
    let none = reading_end c.records.record-iterator.rdr c.next.new.self.rdr c.records.record-iterator.left c.next.new.self.left rows reading (x.0 reading.1, x.2, x.3) in
    sym same ∙ ap (judged g.P.Progress.judge c.records.row c.records.progress) none
