use Rattle.std.proofs.Common.{◌≡◌, ◌++◌, map, take}
use Rattle.day_writer.specs.Rows.{span_row}
use Rattle.day_writer.specs.Sheets.{roads_in_force}
use Rattle.day_writer.specs.Texts.{text_of}
use Rattle.day_writer.proofs.roads.put_spans.Given as goal

abbrev pub invariant-spans : goal.invariant-spans
invariant-spans l = l.page ≡ l.fn.page ++ text_of (map (span_row l.network) (take l.i (roads_in_force l.network l.state).spans))
