use Rattle.design_loads.proofs.OneJudgement.{fit_is_of_the_greatest}
use Rattle.design_loads.proofs.judgement.fit_is_of_the_greatest.Goals as goal

pub returns : goal.returns
returns g c = fit_is_of_the_greatest (g.T.Placements.allowed c.args.truck.now)
