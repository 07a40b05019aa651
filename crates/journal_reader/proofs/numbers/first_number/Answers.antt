use Rattle.std.proofs.Common.{◌∙◌, ap, arith, sym, subst}
use Rattle.std.specs.Str.Parse.{AllDigits}
use Rattle.journal_reader.specs.Words.{value_from}
use Rattle.journal_reader.proofs.Numerals.{digits_are_part, digits_spell}
use Rattle.journal_reader.proofs.numbers.first_number.Goals as goal

pub returns-then-n-from-clause-parts : goal.returns-then-n-from-clause-parts
returns-then-n-from-clause-parts c =
    digits_are_part c.args.text.now c.split_at.result.0.now c.split_at.result.1.now c.args.sep c.front_digits-at.result.0 c.requires c.front_digits-at.ensures.within c.split_at.ensures.front c.split_at.ensures.back c.front_digits-at.ensures.digits (c.is_whole.ensures.ends c.if-is_whole.true)

pub returns-then-n-from-clause-number : goal.returns-then-n-from-clause-number
returns-then-n-from-clause-number c =
    (digits_spell c.split_at.result.0.now c.front_digits-at.result.1 (subst (AllDigits 10) (sym c.split_at.ensures.front) c.front_digits-at.ensures.digits) (c.is_whole.ensures.some c.if-is_whole.true) (c.is_whole.ensures.zero c.if-is_whole.true) (c.front_digits-at.ensures.value ∙ ap (value_from 0) (sym c.split_at.ensures.front)) (omega arith)).0

pub returns-then-n-from-clause-sound : goal.returns-then-n-from-clause-sound
returns-then-n-from-clause-sound c =
    (digits_spell c.split_at.result.0.now c.front_digits-at.result.1 (subst (AllDigits 10) (sym c.split_at.ensures.front) c.front_digits-at.ensures.digits) (c.is_whole.ensures.some c.if-is_whole.true) (c.is_whole.ensures.zero c.if-is_whole.true) (c.front_digits-at.ensures.value ∙ ap (value_from 0) (sym c.split_at.ensures.front)) (omega arith)).1
