-- A table of zeros says nothing.
use Rattle.std.proofs.Common.{refl}
use Rattle.std.proofs.lemmas.Result.{IfOk-weaker}
use Rattle.hs20_truck.proofs.Table.{table_of_zeros}
use Rattle.hs20_truck.proofs.kept.table_of.Goals as goal

pub returns-in-None : goal.returns-in-None
returns-in-None c =
    IfOk-weaker c.vec.result _ _ (λ v are axles _. table_of_zeros axles v.items 6001 refl (are (λ y same. same))) c.vec.ensures.items_if_clones_equal
