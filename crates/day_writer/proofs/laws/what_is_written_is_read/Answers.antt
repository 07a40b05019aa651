use Rattle.day_writer.proofs.Written.{written_is_read}
use Rattle.day_writer.proofs.laws.what_is_written_is_read.Goals as goal

pub returns : goal.returns
returns c = written_is_read
