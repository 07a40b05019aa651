use Rattle.std.proofs.Common.{◌≡◌, IfErr, Result, rules, subst}
use Rattle.office_core.specs.Machine.{IsLegal}
use Rattle.office_core.specs.Offices.{Opened}
use Rattle.office_core.specs.Promises.{KeepsPromises}
use Rattle.day_trial.specs.declared.refusal.ServingRefusal.{ServingRefusal}
use Rattle.day_trial.specs.declared.refusal.ServingRefusal.TheVariants.{TooMany}
use Rattle.day_trial.specs.Rerouting.{IsLongWith, WasCutShort}
use Rattle.day_trial.proofs.RerouteCarrying.{carried, cut_alone, cut_with, keeps_mid, long_with, refused_with}
use Rattle.day_trial.proofs.Finishing.{where_too_many}
use Rattle.day_trial.proofs.rerouting.carry_out_one.Goals as goal

pub returns-in_err-finish-clause-refused : goal.returns-in_err-finish-clause-refused
returns-in_err-finish-clause-refused g c =
    let o = c.args.lone.now in
    let d = c.args.desk.now in
    subst (λ (r : Result (Unit {0}) ServingRefusal). IfErr r (λ q. q ≡ TooMany → IsLongWith o d.caller c.args.order.now)) (search rules)
    (where_too_many c.finish.result (long_with o d.caller c.args.order.now) c.finish.ensures.refused)

pub returns-in_err-finish-clause-stopped : goal.returns-in_err-finish-clause-stopped
returns-in_err-finish-clause-stopped g c =
    let o = c.args.lone.now in
    let d = c.args.desk.now in
    let now = c.finish.new.lone in
    subst (λ (r : Result (Unit {0}) ServingRefusal). IfErr r (λ q. q ≡ TooMany → WasCutShort o d.caller c.args.order.now now)) (search rules)
    (where_too_many c.finish.result (cut_alone o now d.caller c.args.order.now) c.finish.ensures.stopped)

pub catch_up-caught_up-requires : goal.catch_up-caught_up-requires
catch_up-caught_up-requires g c =
    keeps_mid c.calls_of_others_keep_up.ensures c.args.desk.now c.args.lone.now c.finish.new.lone c.args.order.now c.requires.caller c.requires.caught_up c.in_ok-finish.ensures.finished

pub returns-in_err-caught_up-clause-refused : goal.returns-in_err-caught_up-clause-refused
returns-in_err-caught_up-clause-refused g c =
    let o = c.args.lone.now in
    let d = c.args.desk.now in
    let legal = subst (λ (x : Opened). IsLegal x.base x.opening x.history) c.office.ensures c.history-history.ensures.legal in
    subst (λ (r : Result (Unit {0}) ServingRefusal). IfErr r (λ q. q ≡ TooMany → IsLongWith o d.caller c.args.order.now)) (search rules)
    (refused_with c.runs_are_one.ensures.command d o c.finish.new.lone c.args.order.now c.requires.roads c.requires.caught_up c.in_ok-finish.ensures.finished c.catch_up-caught_up.new.desk c.catch_up-caught_up.new.lone
    (keeps_mid c.calls_of_others_keep_up.ensures d o c.finish.new.lone c.args.order.now c.requires.caller c.requires.caught_up c.in_ok-finish.ensures.finished) legal c.catch_up-caught_up.result c.catch_up-caught_up.ensures.gone c.catch_up-caught_up.ensures.refused)

pub returns-in_err-caught_up-clause-stopped : goal.returns-in_err-caught_up-clause-stopped
returns-in_err-caught_up-clause-stopped g c =
    let o = c.args.lone.now in
    let d = c.args.desk.now in
    let now = c.catch_up-caught_up.new.lone in
    let promises = subst (λ (x : Opened). KeepsPromises x.base x.opening x.history) c.office.ensures c.history-history.ensures.promises in
    subst (λ (r : Result (Unit {0}) ServingRefusal). IfErr r (λ q. q ≡ TooMany → WasCutShort o d.caller c.args.order.now now)) (search rules)
    (cut_with c.runs_are_one.ensures.command d o c.finish.new.lone c.args.order.now c.requires.roads c.requires.caught_up c.in_ok-finish.ensures.finished c.catch_up-caught_up.new.desk now
    (keeps_mid c.calls_of_others_keep_up.ensures d o c.finish.new.lone c.args.order.now c.requires.caller c.requires.caught_up c.in_ok-finish.ensures.finished) promises c.catch_up-caught_up.result c.catch_up-caught_up.ensures.gone c.catch_up-caught_up.ensures.refused)

pub returns-clause-carried : goal.returns-clause-carried
returns-clause-carried g c =
    let o = c.args.lone.now in
    let d = c.args.desk.now in
    let promises = subst (λ (x : Opened). KeepsPromises x.base x.opening x.history) c.office.ensures c.history-history.ensures.promises in
    carried c.runs_are_one.ensures.command d o c.finish.new.lone c.args.order.now c.requires.roads c.requires.caught_up c.in_ok-finish.ensures.finished c.catch_up-caught_up.new.desk c.catch_up-caught_up.new.lone
    (keeps_mid c.calls_of_others_keep_up.ensures d o c.finish.new.lone c.args.order.now c.requires.caller c.requires.caught_up c.in_ok-finish.ensures.finished) promises c.in_ok-caught_up.ensures.gone c.in_ok-caught_up.ensures.all
