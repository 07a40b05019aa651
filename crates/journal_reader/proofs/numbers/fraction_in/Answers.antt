use Rattle.std.proofs.Common.{◌≡◌, Some, rules}
use Rattle.journal_reader.specs.Words.{pair_of, wide_of}
use Rattle.journal_reader.proofs.Lowest.{fraction_made}
use Rattle.journal_reader.proofs.Only.{fraction_found}
use Rattle.journal_reader.proofs.numbers.fraction_in.Goals as goal

pub returns-then-is_done-clause-exact : goal.returns-then-is_done-clause-exact
unfolding pair_of
returns-then-is_done-clause-exact c =
    let pair : pair_of 47 wide_of wide_of c.args.word.now ≡ Some (c.in-Some-wide_in.num, c.in-Some-wide_in-2.den) = search rules in
    fraction_made c.args.word.now c.in-Some-wide_in.num c.in-Some-wide_in-2.den c.of.result pair c.of.ensures.taken c.of.ensures.value

pub returns-then-is_done-clause-sound : goal.returns-then-is_done-clause-sound
returns-then-is_done-clause-sound c = fraction_found c.args.word.now c.of.result (returns-then-is_done-clause-exact c)
