-- The table goes on saying what it said, and says the least rating of one length more.
use Rattle.std.proofs.Common.{arith, refl}
use Rattle.span_rating.proofs.OneValue.{carries_from_least}
use Rattle.hs20_truck.specs.Kept.{IsTable}
use Rattle.hs20_truck.proofs.Table.{table_with}
use Rattle.hs20_truck.proofs.kept.Kept.keep.Goals as goal

pub index_mut-requires : goal.index_mut-requires
index_mut-requires c =
    let table : IsTable c.self.inside.train c.in_ok-numbers.numbers.items = c.in_ok-numbers.ensures c.self.inside.train (rw c.take.ensures.value c.self.invariant) in
    omega (arith, table.many, c.in_ok-numbers.numbers.ok)

pub invariant_of-self-2 : goal.invariant_of-self-2
invariant_of-self-2 c =
    let table : IsTable c.self.inside.train c.in_ok-numbers.numbers.items = c.in_ok-numbers.ensures c.self.inside.train (rw c.take.ensures.value c.self.invariant) in
    let study = c.study_of-study in
    let carries = carries_from_least c.self.inside.train c.args.inches c.least_rating-least.result study.result.truck study.result.design
    c.requires.0 study.ensures.truck study.ensures.design c.least_rating-least.ensures.least in
    table_with c.self.inside.train c.in_ok-numbers.numbers.items _ c.args.inches c.least_rating-least.result c.requires.1 table carries refl
