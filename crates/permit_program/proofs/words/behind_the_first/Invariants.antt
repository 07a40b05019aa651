use Rattle.std.proofs.Common.{◌≡◌, ◌++◌, drop}
use Rattle.std.specs.Vec.Iter.{into_iter_items, into_iter_len}
use Rattle.permit_program.proofs.words.behind_the_first.Given as goal

abbrev pub decreases-rest : goal.decreases-rest
decreases-rest l = into_iter_len l.words

abbrev pub invariant-rest : goal.invariant-rest
invariant-rest l = l.behind.items ++ into_iter_items l.words ≡ drop 1 (into_iter_items l.fn.words)
