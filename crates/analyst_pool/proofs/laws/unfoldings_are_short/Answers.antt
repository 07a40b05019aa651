use Rattle.analyst_pool.proofs.Lengths.{short, shorter}
use Rattle.analyst_pool.proofs.laws.unfoldings_are_short.Goals as goal

pub returns-clause-all : goal.returns-clause-all
returns-clause-all c = short

pub returns-clause-stopped : goal.returns-clause-stopped
returns-clause-stopped c = shorter
