use Rattle.std.proofs.lemmas.Result.{on_ok_weaker}
use Rattle.journal_text.specs.Words.{group, index}
use Rattle.journal_text.proofs.Pieces.{adds_named_word, pair_adds}
use Rattle.journal_text.proofs.words.named_group.Goals as goal

pub returns : goal.returns
returns c =
    on_ok_weaker c.index_behind-2.result
    (λ last. adds_named_word c.args.out.now.items c.word.new.out.items c.index_behind-2.new.out.items c.args.text.now (group c.args.i c.args.j) c.in_ok-word.ensures
    (pair_adds c.word.new.out.items c.index_behind.new.out.items c.index_behind-2.new.out.items (index c.args.i) (index c.args.j) 45 c.in_ok-index_behind.ensures last))
    c.index_behind-2.ensures
