use Rattle.std.proofs.Common.{◌≡◌, ◌∙◌, List, ℕ, ap, arith, lit<}
use Rattle.std.specs.Prelude.{min}
use Rattle.std.proofs.lemmas.List.{take_all}
use Rattle.journal_reader.specs.Words.{value_from}
use Rattle.journal_reader.proofs.Numerals.{number_is}
use Rattle.journal_reader.proofs.numbers.wide_in.Goals as goal

pub returns-then-spells : goal.returns-then-spells
returns-then-spells c =
    let value : c.digits.value ≡ min (value_from 0 c.args.word.now) 340282366920938463463374607431768211455 = c.digits.invariant ∙ ap (λ (t : List ℕ). min (value_from 0 t) 340282366920938463463374607431768211455) (take_all c.digits.b-index c.args.word.now (omega arith)) in
    (number_is 340282366920938463463374607431768211455 c.args.word.now c.digits.value c.spells.result (lit< tt) value c.spells.ensures).0 c.if-spells.true

pub returns-else-spells : goal.returns-else-spells
returns-else-spells c =
    let value : c.digits.value ≡ min (value_from 0 c.args.word.now) 340282366920938463463374607431768211455 = c.digits.invariant ∙ ap (λ (t : List ℕ). min (value_from 0 t) 340282366920938463463374607431768211455) (take_all c.digits.b-index c.args.word.now (omega arith)) in
    (number_is 340282366920938463463374607431768211455 c.args.word.now c.digits.value c.spells.result (lit< tt) value c.spells.ensures).1 c.if-spells.false
