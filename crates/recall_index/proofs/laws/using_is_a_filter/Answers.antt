use Rattle.recall_index.proofs.Filters.{is_a_filter}
use Rattle.recall_index.proofs.laws.using_is_a_filter.Goals as goal

pub returns : goal.returns
returns c = is_a_filter
