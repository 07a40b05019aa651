use Rattle.std.proofs.Common.{take}
use Rattle.day_trial.specs.Serving.{HasServed}
use Rattle.day_trial.proofs.serving.carry_out_all.Given as goal

abbrev pub invariant-orders : goal.invariant-orders
invariant-orders g l = HasServed l.fn.lone l.lone (take l.i l.orders)
