use Rattle.analyst_pool.proofs.Memory.{finished_found}
use Rattle.analyst_pool.proofs.Runs.{finished_short, stopped_short}
use Rattle.analyst_pool.proofs.laws.scripts_are_short.Goals as goal

pub returns-clause-done : goal.returns-clause-done
returns-clause-done c = finished_short

pub returns-clause-memory : goal.returns-clause-memory
returns-clause-memory c = finished_found

pub returns-clause-stopped : goal.returns-clause-stopped
returns-clause-stopped c = stopped_short
