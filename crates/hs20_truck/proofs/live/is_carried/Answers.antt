-- A span carries the train exactly where its effects are within the rating.
use Rattle.std.proofs.lemmas.Bool.{false≢true}
use Rattle.span_rating.proofs.OneValue.{carries_where_within}
use Rattle.hs20_truck.proofs.live.is_carried.Goals as goal

pub returns-in_default : goal.returns-in_default
returns-in_default c =
    let study = c.study_of-study in
    let same = carries_where_within c.args.train.now c.args.inches c.args.rating study.result.truck study.result.design c.requires.span.0 study.ensures.truck study.ensures.design in
    (λ false. absurd (false≢true false), λ carries. absurd (c.in_default.not-Fits (c.fits.ensures.fits.1 (same.0 carries))))
