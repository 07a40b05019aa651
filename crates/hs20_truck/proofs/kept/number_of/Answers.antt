-- The table has the number of each length.
use Rattle.std.proofs.Common.{◌≡◌, get_or, subst, arith}
use Rattle.std.proofs.lemmas.Grind.{common_steps}
use Rattle.hs20_truck.specs.Kept.{IsNumberFor, IsTable}
use Rattle.hs20_truck.proofs.kept.number_of.Goals as goal

pub returns-in-Some-get : goal.returns-in-Some-get
returns-in-Some-get c axles h =
    let table : IsTable axles c.in-Some.numbers.items = rw c.in-Some.is at h in
    let at : get_or c.in-Some.numbers.items c.args.inches 0 ≡ c.in-Some-get.number.now = grind (arith, common_steps) in
    subst (IsNumberFor axles c.args.inches) at (table.each c.args.inches)
