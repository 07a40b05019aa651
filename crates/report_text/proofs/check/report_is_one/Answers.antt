use Rattle.report_text.proofs.OneReport.{one_report}
use Rattle.report_text.proofs.check.report_is_one.Goals as goal

pub returns : goal.returns
returns c = one_report
