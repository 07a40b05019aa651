use Rattle.notice_desk.proofs.Resuming.{delivered_on}
use Rattle.notice_desk.proofs.laws.deliveries_go_on.Goals as goal

pub returns : goal.returns
returns c = delivered_on
