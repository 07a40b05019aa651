use Rattle.day_trial.proofs.Carrying.{finishes, not_full, where_done}
use Rattle.day_trial.proofs.serving.carry_out_one.Goals as goal

pub outcome-requires : goal.outcome-requires
outcome-requires g c =
    not_full c.unfoldings_are_short.ensures.stopped c.args.lone.now c.carry_out-reply.new.self c.args.order.now c.carry_out-reply.result c.carry_out-reply.ensures c.requires.room

pub returns : goal.returns
returns g c =
    where_done c.outcome.result (λ memory. finishes c.unfoldings_are_short.ensures.all c.args.lone.now c.carry_out-reply.new.self c.args.order.now c.carry_out-reply.result
    c.carry_out-reply.ensures (not_full c.unfoldings_are_short.ensures.stopped c.args.lone.now c.carry_out-reply.new.self c.args.order.now c.carry_out-reply.result c.carry_out-reply.ensures c.requires.room)
    memory) c.outcome.ensures
