use Rattle.analyst_pool.proofs.Alone.{runs_one}
use Rattle.day_run.proofs.Callers.{lone}
use Rattle.day_run.proofs.serving.lone_actors_are_one.Goals as goal

pub returns : goal.returns
returns c = lone runs_one
