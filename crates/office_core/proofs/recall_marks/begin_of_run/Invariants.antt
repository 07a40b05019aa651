use Rattle.std.proofs.Common.{◌≡◌}
use Rattle.std.specs.List.{AllWithin}
use Rattle.office_core.specs.Recalls.{segments_of}
use Rattle.office_core.proofs.recall_marks.begin_of_run.Given as goal

abbrev pub invariant-loop-i : goal.invariant-loop-i
invariant-loop-i l = AllWithin (λ n. segments_of l.permits n ≡ l.route) l.numbers l.i l.end
