use Rattle.std.proofs.Common.{rules}
use Rattle.journal_reader.specs.Words.{list_of}
use Rattle.journal_reader.proofs.Only.{indices_found}
use Rattle.journal_reader.proofs.numbers.indices_in.Goals as goal

pub returns-clause-sound : goal.returns-clause-sound
unfolding list_of
returns-clause-sound c = indices_found c.args.word.now c.all_indices.result (search rules)
