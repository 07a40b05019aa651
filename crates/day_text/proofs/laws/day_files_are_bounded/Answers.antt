use Rattle.day_text.proofs.EveryDay.{day_bounded}
use Rattle.day_text.proofs.laws.day_files_are_bounded.Goals as goal

pub returns : goal.returns
returns c = day_bounded
