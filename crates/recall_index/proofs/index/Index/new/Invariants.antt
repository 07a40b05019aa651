use Rattle.std.proofs.Common.{◌≡◌}
use Rattle.recall_index.specs.Uses.{unused}
use Rattle.recall_index.proofs.index.Index.new.Given as goal

abbrev pub invariant-loop-segment : goal.invariant-loop-segment
invariant-loop-segment l = l.users.items ≡ unused l._segment
