use Rattle.span_rating.proofs.OneValue.{says_of_peaks}
use Rattle.span_rating.proofs.judgement.fit_is_of_the_peaks.Goals as goal

pub returns : goal.returns
returns g c = says_of_peaks (g.T.Placements.allowed c.args.truck.now) (g.D.Placements.allowed c.args.design.now)
