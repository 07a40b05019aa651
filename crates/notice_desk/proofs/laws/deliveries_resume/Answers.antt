use Rattle.notice_desk.proofs.Resuming.{delivered_after}
use Rattle.notice_desk.proofs.laws.deliveries_resume.Goals as goal

pub returns : goal.returns
returns c = delivered_after
