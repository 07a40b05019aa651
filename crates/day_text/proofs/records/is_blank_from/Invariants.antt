use Rattle.std.proofs.Common.{◌≡◌}
use Rattle.csv.specs.Records.{fields_of}
use Rattle.day_text.specs.Records.{is_blank_from}
use Rattle.day_text.proofs.records.is_blank_from.Given as goal

abbrev pub invariant-loop-i : goal.invariant-loop-i
invariant-loop-i l = is_blank_from l.i (fields_of l.row) ≡ is_blank_from l.fn.first (fields_of l.row)
