use Rattle.std.proofs.Common.{take}
use Rattle.recall_index.specs.Uses.{IsAdded}
use Rattle.recall_index.proofs.index.Index.add.Given as goal

abbrev pub invariant-loop-i : goal.invariant-loop-i
invariant-loop-i l = IsAdded l.fn.self l.number (take l.i l.route) l.self
