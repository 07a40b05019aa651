use Rattle.std.proofs.Common.{◌≡◌, ◌+◌, ◌≤◌, length, vec_len, take}
use Rattle.day_run.specs.declared.ended.Ended.TheVariants as ended
use Rattle.day_run.specs.Workers.{AreDoneFrom, AreReceivedFrom, OneIsFull}
use Rattle.day_run.proofs.workers.take_all.Given as goal

abbrev pub invariant-loop-worker : goal.invariant-loop-worker
invariant-loop-worker g l = record {
  lock : l.root.lock ≡ l.initial.root.lock;
  admitted : l.root.admitted ≡ l.initial.root.admitted;
  receipts : length l.root.receipts + vec_len l.workers ≡ length l.initial.root.receipts + vec_len l.initial.workers;
  left : l.workers.items ≡ take (vec_len l.workers) l.initial.workers.items;
  fewer : vec_len l.workers ≤ vec_len l.initial.workers;
  received : AreReceivedFrom (λ s. s.pass) (vec_len l.workers) l.root.receipts l.initial.workers.items;
  done : l.ended ≡ ended.Done → AreDoneFrom (vec_len l.workers) l.initial.workers.items;
  full : l.ended ≡ ended.Full → OneIsFull l.initial.workers.items;
}

abbrev pub decreases-loop-worker : goal.decreases-loop-worker
decreases-loop-worker g l = vec_len l.workers
