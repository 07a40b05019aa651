use Rattle.journal_whole.proofs.Issuing.{whole_issued}
use Rattle.journal_whole.proofs.laws.whole_histories_issue_few.Goals as goal

pub returns : goal.returns
returns c = whole_issued
