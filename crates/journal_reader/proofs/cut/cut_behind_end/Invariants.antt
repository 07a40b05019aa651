use Rattle.std.proofs.Common.{length}
use Rattle.journal_reader.proofs.Cutting.{Passed}
use Rattle.journal_reader.proofs.cut.cut_behind_end.Given as goal

abbrev pub invariant-lines : goal.invariant-lines
invariant-lines l = Passed l.fn.bytes l.rest

abbrev pub decreases-lines : goal.decreases-lines
decreases-lines l = length l.rest
