use Rattle.std.proofs.Common.{◌≡◌, drop}
use Rattle.axle_train.specs.Refusals.{place_fault, rise_fault}
use Rattle.axle_train.proofs.refusal.place_fault.Given as goal

abbrev pub invariant-loop-i : goal.invariant-loop-i
invariant-loop-i l = place_fault l.axles ≡ rise_fault l.least l.i (drop l.i l.axles)
