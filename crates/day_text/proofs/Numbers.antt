-- Numbers of a few decimal digits.
use Rattle.std.proofs.Common.{◌≡◌, ◌<◌, ◌≤◌, ℕ, List, length, Some, Result, Ok, true, arith, rules}
use Rattle.std.proofs.lemmas.Str.Parse.{IsNumeralModel, numerals_by_value, parse_gives, digits_value_short}
use Rattle.std.specs.List.{list_all}
use Rattle.std.specs.Char.{is_ascii_digit}
use Rattle.std.specs.Str.Parse.{digits_value, ParsesUnsigned}
use Rattle.std.proofs.lemmas.Bool.Decides.{nat_tests}
use Rattle.day_text.specs.Fields.{number_field}

own : IsNumeralModel (λ ds. list_all is_ascii_digit ds ≡ true) (digits_value 10)
own = numerals_by_value _ (search rules)

-- one to nine digits are read as a number of 32 bits
pub parsed : {E : Type 0} (text : List ℕ) (read : Result ℕ E) → ParsesUnsigned 32 10 text read → list_all is_ascii_digit text ≡ true → 0 < length text → length text ≤ 9 → read ≡ Ok (digits_value 10 text)
parsed text read h digits some few =
    let short = digits_value_short own text 9 digits few in
    parse_gives own 32 text read h digits some (omega arith)

-- and are a number's field
pub number_read : (text : List ℕ) → 0 < length text → length text ≤ 9 → list_all is_ascii_digit text ≡ true → number_field text ≡ Some (digits_value 10 text)
unfolding number_field
number_read text some few digits = grind (arith, nat_tests)
