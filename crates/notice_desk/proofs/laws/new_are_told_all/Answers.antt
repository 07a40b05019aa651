use Rattle.notice_desk.proofs.Resuming.{new_told_all}
use Rattle.notice_desk.proofs.laws.new_are_told_all.Goals as goal

pub returns : goal.returns
returns c = new_told_all
