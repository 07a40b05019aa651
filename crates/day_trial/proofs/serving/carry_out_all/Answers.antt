use Rattle.std.proofs.Common.{List, ◌++◌, ◌∷◌, [], take, ap, sym, subst, ◌∙◌}
use Rattle.std.proofs.lemmas.List.{take_more}
use Rattle.day_text.specs.declared.orders.Order.{Order}
use Rattle.day_trial.specs.Serving.{HasServed}
use Rattle.day_trial.proofs.Carrying.{served_more}
use Rattle.day_trial.proofs.serving.carry_out_all.Goals as goal

pub orders-preserved : goal.orders-preserved
orders-preserved g c =
    let orders = c.args.orders.now in
    let order = c.index-orders-i.result in
    let more = served_more c.args.lone.now c.orders.lone c.carry_out_one.new.lone (take c.orders.i orders) order c.orders.invariant c.in_ok-carry_out_one.ensures in
    let front = take_more orders c.orders.i order c.orders-test.true ∙ ap (λ (o : Order). take c.orders.i orders ++ o ∷ []) (sym c.index-orders-i.is) in
    subst (λ (l : List Order). HasServed c.args.lone.now c.carry_out_one.new.lone l) (sym front) more
