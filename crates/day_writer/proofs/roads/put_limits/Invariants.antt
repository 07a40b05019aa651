use Rattle.std.proofs.Common.{◌≡◌, ◌++◌, take}
use Rattle.std.specs.Prelude.{flat_map}
use Rattle.day_writer.specs.Limits.{limit_rows}
use Rattle.day_writer.specs.Sheets.{roads_in_force}
use Rattle.day_writer.specs.Texts.{text_of}
use Rattle.day_writer.proofs.roads.put_limits.Given as goal

abbrev pub invariant-segments : goal.invariant-segments
invariant-segments l = l.page ≡ l.fn.page ++ text_of (flat_map limit_rows (take l.i (roads_in_force l.network l.state).segments))
