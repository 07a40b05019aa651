use Rattle.recall_index.proofs.Sifting.{Sifts}
use Rattle.recall_index.proofs.removal.sift.Given as goal

abbrev pub invariant-loop-i : goal.invariant-loop-i
invariant-loop-i l = Sifts l.these l.fn.all.items l.all.items l.kept l.i l.next
