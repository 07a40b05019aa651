use Rattle.recall_index.proofs.Rising.{is_last}
use Rattle.recall_index.proofs.users.is_among.Goals as goal

pub returns-in-Some : goal.returns-in-Some
returns-in-Some c = let h = c.in-Some.ensures.item in is_last c.args.number c.in-Some.last.now c.args.numbers.now c.requires.rising c.requires.below h.3.0 (h.3.1 0)
