use Rattle.std.proofs.Common.{◌≡◌, ◌≤◌, ◌*◌, take, sum_by}
use Rattle.axle_train.proofs.refusal.total_fault.Given as goal

abbrev pub invariant-loop-i : goal.invariant-loop-i
invariant-loop-i l = (l.gross ≡ sum_by (λ a. a.weight) (take l.i l.axles)) × (l.gross ≤ 200000 * l.i)
