use Rattle.journal_reader.proofs.OneCut.{one_cut}
use Rattle.journal_reader.proofs.laws.cuts_are_one.Goals as goal

pub returns : goal.returns
returns c = one_cut
