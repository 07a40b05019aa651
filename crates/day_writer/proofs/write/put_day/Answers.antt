use Rattle.std.proofs.Common.{◌∙◌, ◌++◌, List, ap, sym}
use Rattle.day_text.specs.Records.{Row}
use Rattle.day_writer.specs.Texts.{text_of}
use Rattle.day_writer.proofs.SheetRows.{segments_same, spans_same}
use Rattle.day_writer.proofs.Writing.{day_written}
use Rattle.day_writer.proofs.write.put_day.Goals as goal

pub returns : goal.returns
returns c =
    let roads = c.network-network.ensures in
    let base = c.args.sheet.now.base.now in
    let state = c.args.sheet.now.state.now in
    let segments = (rw roads at c.in_ok-put_segments.ensures) ∙ ap (λ (rows : List Row). c.put_nodes.new.page ++ text_of rows) (sym (segments_same base.roads state)) in
    let spans = (rw roads at c.in_ok-put_spans.ensures) ∙ ap (λ (rows : List Row). c.put_segments.new.page ++ text_of rows) (sym (spans_same base.roads state)) in
    day_written c.args.page.now c.put.new.self c.put_nodes.new.page c.put_segments.new.page c.put_spans.new.page c.put_trucks.new.page c.put_actors.new.page c.put_limits.new.page c.put_commands.new.page c.put-2.new.self _ _ _ _ _ _ _ _ _
    c.in_ok-put.ensures (rw roads at c.in_ok-put_nodes.ensures) segments spans c.in_ok-put_trucks.ensures c.in_ok-put_actors.ensures (rw roads at c.in_ok-put_limits.ensures) c.in_ok-put_commands.ensures c.in_ok-put-2.ensures
