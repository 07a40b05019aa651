use Rattle.std.proofs.Common.{subst}
use Rattle.office_core.specs.Machine.{IsLegal}
use Rattle.office_core.specs.Offices.{Opened}
use Rattle.day_trial.proofs.Carrying.{full_reply}
use Rattle.day_trial.proofs.Finishing.{finishes, halts, stops, where_done, where_too_many}
use Rattle.day_trial.proofs.rerouting.finish.Goals as goal

pub returns-clause-finished : goal.returns-clause-finished
returns-clause-finished g c =
    let legal = subst (λ (x : Opened). IsLegal x.base x.opening x.history) c.office.ensures c.history-history.ensures.legal in
    where_done c.finished.result (λ room memory. finishes c.runs_are_one.ensures.first c.args.lone.now c.carry_out-reply.new.self c.args.order.now c.carry_out-reply.result c.requires.roads
    c.carry_out-reply.ensures legal c.scripts_are_short.ensures.memory room memory) c.finished.ensures.room c.finished.ensures.memory

pub returns-clause-refused : goal.returns-clause-refused
returns-clause-refused g c =
    let legal = subst (λ (x : Opened). IsLegal x.base x.opening x.history) c.office.ensures c.history-history.ensures.legal in
    where_too_many c.finished.result (λ full. let (most, is) = full_reply c.carry_out-reply.result full in
    stops c.runs_are_one.ensures.first c.args.lone.now c.carry_out-reply.new.self c.args.order.now c.carry_out-reply.result c.requires.roads
    c.carry_out-reply.ensures legal most is) c.finished.ensures.full

pub returns-clause-stopped : goal.returns-clause-stopped
returns-clause-stopped g c =
    let legal = subst (λ (x : Opened). IsLegal x.base x.opening x.history) c.office.ensures c.history-history.ensures.legal in
    where_too_many c.finished.result (λ full. let (most, is) = full_reply c.carry_out-reply.result full in
    halts c.runs_are_one.ensures.first c.args.lone.now c.carry_out-reply.new.self c.args.order.now c.carry_out-reply.result c.requires.roads
    c.carry_out-reply.ensures legal most is) c.finished.ensures.full
