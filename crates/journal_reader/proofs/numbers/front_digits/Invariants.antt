use Rattle.std.proofs.Common.{◌≡◌, take}
use Rattle.std.specs.Str.Parse.{AllDigits}
use Rattle.journal_reader.specs.Words.{value_from}
use Rattle.journal_reader.proofs.numbers.front_digits.Given as goal

abbrev pub invariant-digits : goal.invariant-digits
invariant-digits l = record {
  digits : AllDigits 10 (take l.at l.text);
  value : l.value ≡ value_from 0 (take l.at l.text);
}
