use Rattle.std.proofs.Common.{List, ◌≡◌, ◌<◌, ◌++◌, ◌∷◌, [], ℕ, suc, length, get_or, take, drop, drop-cons, ap, rules, sym, subst, ◌∙◌, IfErr, Result}
use Rattle.std.proofs.lemmas.List.{take-append-drop, take_more}
use Rattle.day_text.specs.declared.orders.Order.{Order}
use Rattle.office_core.specs.Machine.{IsLegal}
use Rattle.office_core.specs.Offices.{Opened}
use Rattle.day_trial.specs.declared.refusal.ServingRefusal.{ServingRefusal}
use Rattle.day_trial.specs.declared.refusal.ServingRefusal.TheVariants.{TooMany}
use Rattle.day_trial.specs.Rerouting.{AreLong, HasRerouted, HasReroutedOne, HasStopped, IsLongWith, WasCutShort}
use Rattle.day_trial.proofs.Finishing.{where_too_many}
use Rattle.day_trial.proofs.RerouteOne.{long_at, served_more, stopped_more}
use Rattle.day_trial.proofs.rerouting.carry_out_all.Goals as goal

-- the orders, by the one at hand
parts : (orders : List Order) (i : ℕ) (order : Order) → order ≡ get_or orders i order → i < length orders → take i orders ++ order ∷ drop (suc i) orders ≡ orders
parts orders i order is within =
    ap (λ (x : Order). take i orders ++ x ∷ drop (suc i) orders) is
    ∙ (ap (λ (l : List Order). take i orders ++ l) (sym (drop-cons orders i order within)) ∙ take-append-drop i orders)

pub returns-in_err-carry_out_one-clause-stopped : goal.returns-in_err-carry_out_one-clause-stopped
returns-in_err-carry_out_one-clause-stopped g c =
    let o = c.args.lone.now in
    let now = c.orders.lone in
    let next = c.carry_out_one.new.lone in
    let orders = c.args.orders.now in
    let i = c.orders.i in
    let order = c.index-orders-i.result in
    let inv = c.orders.invariant in
    subst (λ (r : Result (Unit {0}) ServingRefusal). IfErr r (λ q. q ≡ TooMany → HasStopped o next c.args.caller orders)) (search rules)
    (where_too_many c.carry_out_one.result (λ cut. subst (λ (l : List Order). HasStopped o next c.args.caller l) (parts orders i order c.index-orders-i.is c.orders-test.true)
    (stopped_more o now next c.args.caller (take i orders) order (drop (suc i) orders) inv.served
    (subst (λ (k : ℕ). WasCutShort now k order next) inv.caller cut))) c.carry_out_one.ensures.stopped)

pub returns-in_err-carry_out_one-clause-refused : goal.returns-in_err-carry_out_one-clause-refused
returns-in_err-carry_out_one-clause-refused g c =
    let o = c.args.lone.now in
    let now = c.orders.lone in
    let orders = c.args.orders.now in
    let i = c.orders.i in
    let order = c.index-orders-i.result in
    let inv = c.orders.invariant in
    let legal = subst (λ (x : Opened). IsLegal x.base x.opening x.history) c.office.ensures c.history-history.ensures.legal in
    subst (λ (r : Result (Unit {0}) ServingRefusal). IfErr r (λ q. q ≡ TooMany → AreLong o.base o.opening o.most c.args.caller orders)) (search rules)
    (where_too_many c.carry_out_one.result (λ long. subst (λ (l : List Order). AreLong o.base o.opening o.most c.args.caller l) (parts orders i order c.index-orders-i.is c.orders-test.true)
    (long_at c.runs_are_one.ensures.command c.answers_are_one.ensures o now c.args.caller (take i orders) order (drop (suc i) orders) c.requires.roads inv.served legal
    (subst (λ (k : ℕ). IsLongWith now k order) inv.caller long))) c.carry_out_one.ensures.refused)

pub orders-preserved : goal.orders-preserved
orders-preserved g c =
    let orders = c.args.orders.now in
    let order = c.index-orders-i.result in
    let inv = c.orders.invariant in
    let next = c.carry_out_one.new.lone in
    let more = served_more c.args.lone.now c.orders.lone next c.args.caller (take c.orders.i orders) order inv.served
    (subst (λ (k : ℕ). HasReroutedOne c.orders.lone k order next) inv.caller c.in_ok-carry_out_one.ensures.carried) in
    let front = take_more orders c.orders.i order c.orders-test.true ∙ ap (λ (o : Order). take c.orders.i orders ++ o ∷ []) (sym c.index-orders-i.is) in
    record {
      served = subst (λ (l : List Order). HasRerouted c.args.lone.now next c.args.caller l) (sym front) more;
      caught_up = c.in_ok-carry_out_one.ensures.caught_up;
      caller = c.in_ok-carry_out_one.ensures.caller ∙ inv.caller;
    }
