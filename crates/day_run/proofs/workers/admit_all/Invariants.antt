use Rattle.std.proofs.Common.{◌≡◌, [], length, vec_capacity}
use Rattle.day_run.specs.Workers.{AreFresh}
use Rattle.day_run.proofs.workers.admit_all.Given as goal

abbrev pub invariant-loop-script : goal.invariant-loop-script
invariant-loop-script g l = record {
  lock : l.root.lock ≡ l.desk;
  admitted : l.root.admitted ≡ length l.yielded;
  receipts : l.root.receipts ≡ [];
  number : l.number ≡ length l.yielded;
  count : length l.workers.items ≡ length l.yielded;
  room : vec_capacity l.workers ≡ vec_capacity l.initial.workers;
  fresh : AreFresh (λ s. s.pass) l.desk l.yielded l.workers.items;
}
