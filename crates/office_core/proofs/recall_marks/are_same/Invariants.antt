use Rattle.std.proofs.Common.{◌≡◌, take, true}
use Rattle.office_core.proofs.recall_marks.are_same.Given as goal

abbrev pub invariant-loop-i : goal.invariant-loop-i
invariant-loop-i l = l.same ≡ true → take l.i l.one ≡ take l.i l.other
