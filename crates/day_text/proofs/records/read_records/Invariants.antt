use Rattle.std.proofs.Common.{◌≡◌, ◌≤◌, ◌+◌, List, length}
use Rattle.day_text.specs.Records.{Row, judged, rows_of}
use Rattle.day_text.proofs.Reading.{IsReading}
use Rattle.day_text.proofs.records.read_records.Given as goal

abbrev pub invariant-records : goal.invariant-records
invariant-records g l = (rows : List Row) × IsReading l.record-iterator.rdr l.record-iterator.left rows
    × (l.row + length rows ≤ length l.fn.bytes + 2)
    × (judged g.P.Progress.judge l.row l.progress rows ≡ judged g.P.Progress.judge 1 l.fn.start (rows_of l.fn.bytes))
