use Rattle.std.proofs.Common.{arith, [], sym}
use Rattle.std.proofs.lemmas.Option.{get_or_from_slice_get}
use Rattle.road_graph.specs.Roads.{no_segment}
use Rattle.day_writer.specs.Rows.{segment_row}
use Rattle.day_writer.proofs.Writing.{row_more, segment_written}
use Rattle.day_writer.proofs.roads.put_segments.Goals as goal

pub segments-preserved : goal.segments-preserved
segments-preserved c =
    let roads = c.args.network.now in
    let s = c.segment-segment.result in
    row_more (segment_row roads) roads.segments c.segments.i no_segment s c.args.page.now c.segments.page c.put.new.self (omega (arith, c.segments-i-end.ensures.count)) (sym c.segment-segment.ensures.at) c.segments.invariant
    (segment_written roads s c.segments.page c.put.new.self c.node-from.result c.node-to.result
    (get_or_from_slice_get roads.nodes s.from c.node-from.result [] c.node-from.ensures) (get_or_from_slice_get roads.nodes s.to c.node-to.result [] c.node-to.ensures) c.in_ok-put.ensures)
