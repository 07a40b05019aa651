use Rattle.std.proofs.Common.{◌≡◌, drop}
use Rattle.axle_train.specs.Refusals.{weight_fault}
use Rattle.axle_train.proofs.refusal.weight_fault.Given as goal

abbrev pub invariant-loop-i : goal.invariant-loop-i
invariant-loop-i l = weight_fault 0 l.axles ≡ weight_fault l.i (drop l.i l.axles)
