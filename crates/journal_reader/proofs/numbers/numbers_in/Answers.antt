use Rattle.std.proofs.Common.{rules}
use Rattle.journal_reader.specs.Words.{list_of}
use Rattle.journal_reader.proofs.Only.{numbers_found}
use Rattle.journal_reader.proofs.numbers.numbers_in.Goals as goal

pub returns-clause-sound : goal.returns-clause-sound
unfolding list_of
returns-clause-sound c = numbers_found c.args.word.now c.all_numbers.result (search rules)
