use Rattle.std.proofs.Common.{arith}
use Rattle.journal_reader.proofs.Numerals.{nine_digits, one_digit_more, value_step}
use Rattle.journal_reader.proofs.numbers.front_digits.Goals as goal

pub overflow_mul-value : goal.overflow_mul-value
overflow_mul-value c = let small = nine_digits c.args.text.now c.digits.at c.digits.value (omega arith) c.digits.invariant.digits c.digits.invariant.value in omega arith

pub overflow_add-value : goal.overflow_add-value
overflow_add-value c = let small = nine_digits c.args.text.now c.digits.at c.digits.value (omega arith) c.digits.invariant.digits c.digits.invariant.value in omega arith

pub digits-preserved : goal.digits-preserved
digits-preserved c = record {
  digits = one_digit_more c.args.text.now c.digits.at (omega arith) c.digits.invariant.digits c.if-b-lt48.false c.if-b-gt57.false;
  value = let step = value_step c.args.text.now 0 c.digits.at (omega arith) in omega (arith, step, c.digits.invariant.value, c.from.ensures);
}
