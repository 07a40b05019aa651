use Rattle.std.proofs.Common.{◌≡◌, take}
use Rattle.day_trial.specs.Rerouting.{HasRerouted, IsCaughtUp}
use Rattle.day_trial.proofs.rerouting.carry_out_all.Given as goal

abbrev pub invariant-orders : goal.invariant-orders
invariant-orders g l = record {
  served : HasRerouted l.fn.lone l.lone l.fn.caller (take l.i l.orders);
  caught_up : IsCaughtUp l.desk l.lone;
  caller : l.desk.caller ≡ l.fn.caller;
}
