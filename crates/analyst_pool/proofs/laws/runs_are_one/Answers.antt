use Rattle.analyst_pool.proofs.Alone.{finished_one, first_attempt, runs_one}
use Rattle.analyst_pool.proofs.laws.runs_are_one.Goals as goal

pub returns-clause-first : goal.returns-clause-first
returns-clause-first c = first_attempt

pub returns-clause-command : goal.returns-clause-command
returns-clause-command c = finished_one

pub returns-clause-commands : goal.returns-clause-commands
returns-clause-commands c = runs_one
