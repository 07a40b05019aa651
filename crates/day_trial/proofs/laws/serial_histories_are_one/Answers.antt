use Rattle.day_trial.proofs.One.{history_one}
use Rattle.day_trial.proofs.laws.serial_histories_are_one.Goals as goal

pub returns : goal.returns
returns c = λ file history other roads h k. history_one c.runs_are_one.ensures.command file other history roads k h
