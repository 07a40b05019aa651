use Rattle.std.proofs.Common.{◌≡◌, ◌++◌, map, take}
use Rattle.trip_analysis.specs.Bases.{truck_of}
use Rattle.day_writer.specs.Rows.{truck_row}
use Rattle.day_writer.specs.Texts.{text_of}
use Rattle.day_writer.proofs.traffic.put_trucks.Given as goal

abbrev pub invariant-trucks : goal.invariant-trucks
invariant-trucks l = l.page ≡ l.fn.page ++ text_of (map truck_row (take l.i (map (truck_of l.base) l.trucks)))
