use Rattle.std.proofs.Common.{take}
use Rattle.recall_index.specs.Uses.{AreTakenOut}
use Rattle.recall_index.proofs.index.Index.take_out.Given as goal

abbrev pub invariant-loop-i : goal.invariant-loop-i
invariant-loop-i l = AreTakenOut l.fn.self l.numbers (take l.i l.segments) l.self-inside.users.items
