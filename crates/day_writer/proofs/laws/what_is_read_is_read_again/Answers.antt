use Rattle.day_writer.proofs.Written.{read_is_read_again}
use Rattle.day_writer.proofs.laws.what_is_read_is_read_again.Goals as goal

pub returns : goal.returns
returns c = read_is_read_again
