use Rattle.std.proofs.Common.{◌≡◌, take}
use Rattle.std.specs.Prelude.{min}
use Rattle.journal_reader.specs.Words.{value_from}
use Rattle.journal_reader.proofs.numbers.number_in.Given as goal

abbrev pub invariant-digits : goal.invariant-digits
invariant-digits l = l.value ≡ min (value_from 0 (take l.b-index l.word)) 4294967295
