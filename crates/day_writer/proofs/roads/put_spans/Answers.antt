use Rattle.std.proofs.Common.{arith, sym}
use Rattle.road_graph.specs.Roads.{no_span}
use Rattle.day_writer.specs.Rows.{span_row}
use Rattle.day_writer.specs.Sheets.{roads_in_force}
use Rattle.day_writer.proofs.SheetRows.{span_written, spans_many}
use Rattle.day_writer.proofs.Writing.{row_all, row_more}
use Rattle.day_writer.proofs.roads.put_spans.Goals as goal

pub spans-preserved : goal.spans-preserved
spans-preserved c =
    let roads = c.args.network.now in
    let state = c.args.state.now in
    let span = c.span_in_force-span.result in
    row_more (span_row roads) (roads_in_force roads state).spans c.spans.i no_span span c.args.page.now c.spans.page c.put.new.self
    (omega (arith, c.spans-i-end.ensures.count, spans_many roads state)) (sym c.span_in_force-span.ensures.value) c.spans.invariant
    (span_written roads span c.segment-segment.result c.spans.page c.put.new.self c.segment-segment.ensures.at c.in_ok-put.ensures)

pub returns : goal.returns
returns c =
    let roads = c.args.network.now in
    let state = c.args.state.now in
    row_all (span_row roads) (roads_in_force roads state).spans c.spans.i c.args.page.now c.spans.page (omega (arith, c.spans-i-end.ensures.count, spans_many roads state)) c.spans.invariant
