use Rattle.std.proofs.Common.{◌∷◌, ◌++◌, ◌∙◌, ap}
use Rattle.std.specs.Prelude.{codes}
use Rattle.std.proofs.lemmas.Result.{on_ok_weaker}
use Rattle.journal_text.specs.Words.{index, list_text}
use Rattle.journal_text.proofs.Pieces.{adds_named_word}
use Rattle.journal_text.proofs.calls.what.Goals as goal

pub returns-in_ok-word-in-Cut : goal.returns-in_ok-word-in-Cut
returns-in_ok-word-in-Cut c =
    let before = c.word-in-Cut.new.out.items in
    on_ok_weaker c.print.result
    (λ added ws. rw c.in-Cut.is
    (adds_named_word c.args.out.now.items before c.print.new.out.items (codes "cut") (list_text index c.in-Cut.nodes) c.in_ok-word-in-Cut.ensures
    (added ∙ ap (λ nodes. before ++ (32 ∷ list_text index nodes)) c.as_slice.ensures) ws))
    c.print.ensures
