use Rattle.report_text.proofs.Telling.{lines_differ}
use Rattle.report_text.proofs.refusal.refusal_lines_differ.Goals as goal

pub returns : goal.returns
returns c = lines_differ
