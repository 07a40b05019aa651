use Rattle.std.proofs.Common.{◌∷◌, ◌++◌, ◌∙◌, ap}
use Rattle.std.proofs.lemmas.Result.{on_ok_weaker}
use Rattle.std.specs.Fmt.{decimal}
use Rattle.influence_line.specs.Fractions.{ratio_text}
use Rattle.journal_text.proofs.Pieces.{adds_named_word, pair_adds}
use Rattle.journal_text.proofs.words.named_fraction.Goals as goal

pub returns : goal.returns
returns c =
    on_ok_weaker c.wide_digits_behind-2.result
    (λ last. adds_named_word c.args.out.now.items c.word.new.out.items c.wide_digits_behind-2.new.out.items c.args.text.now (ratio_text c.args.f) c.in_ok-word.ensures
    (pair_adds c.word.new.out.items c.wide_digits_behind.new.out.items c.wide_digits_behind-2.new.out.items (decimal c.args.f.num) (decimal c.args.f.den) 47
    (c.in_ok-wide_digits_behind.ensures ∙ ap (λ n. c.word.new.out.items ++ (32 ∷ decimal n)) c.num.ensures) (last ∙ ap (λ n. c.wide_digits_behind.new.out.items ++ (47 ∷ decimal n)) c.den.ensures.value)))
    c.wide_digits_behind-2.ensures
