use Rattle.std.proofs.Common.{arith, sym}
use Rattle.road_graph.specs.Roads.{no_segment}
use Rattle.day_writer.specs.Limits.{limit_rows}
use Rattle.day_writer.specs.Sheets.{roads_in_force}
use Rattle.day_writer.proofs.SheetRows.{segments_many}
use Rattle.day_writer.proofs.Writing.{rows_all, rows_more}
use Rattle.day_writer.proofs.roads.put_limits.Goals as goal

pub segments-preserved : goal.segments-preserved
segments-preserved c =
    let roads = c.args.network.now in
    let state = c.args.state.now in
    rows_more limit_rows (roads_in_force roads state).segments c.segments.i no_segment c.segment_in_force.result c.args.page.now c.segments.page c.put_limits_of.new.page
    (omega (arith, c.segments-i-end.ensures.count, segments_many roads state)) (sym c.segment_in_force.ensures) c.segments.invariant c.in_ok-put_limits_of.ensures

pub returns : goal.returns
returns c =
    let roads = c.args.network.now in
    let state = c.args.state.now in
    rows_all limit_rows (roads_in_force roads state).segments c.segments.i c.args.page.now c.segments.page (omega (arith, c.segments-i-end.ensures.count, segments_many roads state)) c.segments.invariant
