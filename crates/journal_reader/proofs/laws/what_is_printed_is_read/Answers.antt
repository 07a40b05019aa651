use Rattle.journal_reader.proofs.Answers.{printed_is_read}
use Rattle.journal_reader.proofs.laws.what_is_printed_is_read.Goals as goal

pub returns : goal.returns
returns c = printed_is_read
