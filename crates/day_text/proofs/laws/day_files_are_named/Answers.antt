use Rattle.day_text.proofs.Named.{day_named}
use Rattle.day_text.proofs.laws.day_files_are_named.Goals as goal

pub returns : goal.returns
returns c = day_named
