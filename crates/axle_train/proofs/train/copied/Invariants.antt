use Rattle.std.proofs.Common.{◌≡◌, length, take}
use Rattle.axle_train.proofs.train.copied.Given as goal

abbrev pub invariant-loop-i : goal.invariant-loop-i
invariant-loop-i l = (length l.axles ≡ 32) × (take l.i l.axles ≡ take l.i l.list)
