use Rattle.std.proofs.Common.{arith}
use Rattle.std.proofs.lemmas.Bool.{eqb-true}
use Rattle.recall_index.proofs.Blocks.{block_from_ends}
use Rattle.recall_index.proofs.removal.is_block.Goals as goal

pub returns-then-all-at-2 : goal.returns-then-all-at-2
returns-then-all-at-2 c = λ e. block_from_ends c.args.all.now c.args.these.now c.requires.rising c.requires.these c.args.at c.requires.some
    (omega (arith, c.requires.within, c.if-all-at.false)) c.if-all-at-2.true (eqb-true _ _ e) c.requires.among
