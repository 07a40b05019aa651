use Rattle.std.proofs.lemmas.Result.{on_ok_weaker}
use Rattle.journal_text.specs.Words.{routes_text}
use Rattle.journal_text.proofs.Pieces.{adds_named_word}
use Rattle.journal_text.proofs.words.named_routes.Goals as goal

pub returns : goal.returns
returns c =
    on_ok_weaker c.route_lists.result
    (adds_named_word c.args.out.now.items c.word.new.out.items c.route_lists.new.out.items c.args.text.now (routes_text c.args.routes.now) c.in_ok-word.ensures)
    c.route_lists.ensures
