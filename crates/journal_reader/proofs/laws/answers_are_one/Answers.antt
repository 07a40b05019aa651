use Rattle.journal_reader.proofs.Answers.{one_answer}
use Rattle.journal_reader.proofs.laws.answers_are_one.Goals as goal

pub returns : goal.returns
returns c = one_answer
