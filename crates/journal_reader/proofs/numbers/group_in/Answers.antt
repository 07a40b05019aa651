use Rattle.std.proofs.Common.{rules, Some}
use Rattle.journal_reader.specs.Words.{group_of, pair_of}
use Rattle.journal_reader.proofs.Only.{group_found}
use Rattle.journal_reader.proofs.numbers.group_in.Goals as goal

pub returns-then-is_done-clause-sound : goal.returns-then-is_done-clause-sound
unfolding pair_of group_of
returns-then-is_done-clause-sound c = group_found c.args.word.now (Some (c.in-Some-place_in.i, c.in-Some-place_in-2.j)) (search rules)
