-- A number that says something decides.
use Rattle.hs20_truck.proofs.Table.{kept_says}
use Rattle.hs20_truck.proofs.kept.KeptSpanStudy.carries.Goals as goal

pub returns : goal.returns
returns c =
    rw (← c.self.view_is) (kept_says c.self.inside.train c.args.inches c.number_of-number.result c.args.rating
    (c.number_of-number.ensures c.self.inside.train c.self.invariant) c.if-number-eq0.false c.requires.rating)
