use Rattle.std.proofs.Common.{◌≤◌, drop, length}
use Rattle.recall_index.specs.Uses.{AreRemoved}
use Rattle.office_core.proofs.recall_marks.take_out.Given as goal

abbrev pub invariant-loop-end : goal.invariant-loop-end
invariant-loop-end l = record {
  within : l.end ≤ length l.numbers;
  removed : AreRemoved l.fn.index (drop l.end l.numbers) l.index;
}

abbrev pub decreases-loop-end : goal.decreases-loop-end
decreases-loop-end l = l.end
