use Rattle.notice_desk.proofs.Resuming.{delivered_without}
use Rattle.notice_desk.proofs.laws.deliveries_resume_without.Goals as goal

pub returns : goal.returns
returns c = delivered_without
