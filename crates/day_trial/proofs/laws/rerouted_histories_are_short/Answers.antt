use Rattle.day_trial.proofs.RerouteFew.{all_short, few_fit}
use Rattle.day_trial.proofs.laws.rerouted_histories_are_short.Goals as goal

pub returns-clause-all : goal.returns-clause-all
returns-clause-all c = all_short c.runs_are_one.ensures.first

pub returns-clause-few : goal.returns-clause-few
returns-clause-few c = few_fit c.runs_are_one.ensures.first
