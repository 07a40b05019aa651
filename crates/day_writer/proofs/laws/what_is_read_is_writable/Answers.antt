use Rattle.day_writer.proofs.Written.{read_is_writable}
use Rattle.day_writer.proofs.laws.what_is_read_is_writable.Goals as goal

pub returns : goal.returns
returns c = read_is_writable
