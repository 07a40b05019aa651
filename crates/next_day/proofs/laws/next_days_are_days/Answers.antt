use Rattle.next_day.proofs.Writable.{next_days}
use Rattle.next_day.proofs.laws.next_days_are_days.Goals as goal

pub returns : goal.returns
returns c = next_days
