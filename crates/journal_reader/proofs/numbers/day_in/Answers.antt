use Rattle.std.proofs.Common.{◌∙◌, ap}
use Rattle.std.specs.Result.{result_ok}
use Rattle.journal_reader.specs.Words.{day_spelled}
use Rattle.journal_reader.proofs.Only.{day_found}
use Rattle.journal_reader.proofs.numbers.day_in.Goals as goal

pub returns-clause-sound : goal.returns-clause-sound
unfolding day_spelled
returns-clause-sound c = day_found c.args.word.now c.ok.result (c.ok.ensures.value ∙ ap result_ok c.read.ensures)
