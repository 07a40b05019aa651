use Rattle.next_day.proofs.Writable.{next_days_begin}
use Rattle.next_day.proofs.laws.next_days_begin.Goals as goal

pub returns : goal.returns
returns c = next_days_begin
