use Rattle.permit_program.proofs.Statuses.{judge_once}
use Rattle.permit_program.proofs.laws.commands_judge_once.Goals as goal

pub returns : goal.returns
returns c = judge_once
