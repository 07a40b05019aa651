use Rattle.day_trial.proofs.RerouteOne.{history_one}
use Rattle.day_trial.proofs.laws.rerouted_histories_are_one.Goals as goal

pub returns : goal.returns
returns c = history_one c.runs_are_one.ensures.command c.answers_are_one.ensures
