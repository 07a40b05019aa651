use Rattle.std.proofs.Common.{◌≡◌, ◌++◌, map, take}
use Rattle.day_writer.specs.Rows.{segment_row}
use Rattle.day_writer.specs.Texts.{text_of}
use Rattle.day_writer.proofs.roads.put_segments.Given as goal

abbrev pub invariant-segments : goal.invariant-segments
invariant-segments l = l.page ≡ l.fn.page ++ text_of (map (segment_row l.network) (take l.i l.network.segments))
