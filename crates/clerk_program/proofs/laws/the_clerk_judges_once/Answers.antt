use Rattle.clerk_program.proofs.Statuses.{clerk_once}
use Rattle.clerk_program.proofs.laws.the_clerk_judges_once.Goals as goal

pub returns : goal.returns
returns c = clerk_once
