use Rattle.std.proofs.Common.{◌≡◌, length, take}
use Rattle.notice_desk.specs.Standings.{fault_counts, standings, texts}
use Rattle.notice_desk.specs.Lines.{EachWrote}
use Rattle.notice_desk.specs.Deliveries.{through}
use Rattle.notice_desk.proofs.Places.{gone}
use Rattle.notice_desk.proofs.subscribers.Subscribers.deliver.Given as goal

abbrev pub invariant-loop-at : goal.invariant-loop-at
invariant-loop-at g l = record {
  done : standings (λ n. (goal.Notice-dyn g (n.vtable, n.value)).list n.value) l.self
      ≡ gone (through l.recalls) l.at (standings (λ n. (goal.Notice-dyn g (n.vtable, n.value)).list n.value) l.fn.self);
  stands : fault_counts (λ n. (goal.Notice-dyn g (n.vtable, n.value)).faults n.value) l.self
      ≡ fault_counts (λ n. (goal.Notice-dyn g (n.vtable, n.value)).faults n.value) l.fn.self;
  wrote : EachWrote (take l.at (standings (λ n. (goal.Notice-dyn g (n.vtable, n.value)).list n.value) l.fn.self)) l.recalls
      (texts (λ n. (goal.Notice-dyn g (n.vtable, n.value)).text n.value) l.fn.self)
      (texts (λ n. (goal.Notice-dyn g (n.vtable, n.value)).text n.value) l.self);
  same : length l.self.list.items ≡ length l.fn.self.list.items;
}
