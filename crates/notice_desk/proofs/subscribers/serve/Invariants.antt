use Rattle.std.proofs.Common.{◌≡◌, ◌+◌, take}
use Rattle.std.specs.Io.KnownBytes.{Appends}
use Rattle.notice_desk.specs.Lines.{recall_lines}
use Rattle.notice_desk.specs.Notices.{recalls_for, told_more}
use Rattle.notice_desk.proofs.subscribers.serve.Given as goal

abbrev pub invariant-loop-recall : goal.invariant-loop-recall
invariant-loop-recall g l = record {
  whom : l.subscriber.whom ≡ l.fn.subscriber.whom;
  passed : l.subscriber.passed ≡ l.fn.subscriber.passed + l.recall-index;
  told : (goal.Notice-dyn g (l.subscriber.notice.vtable, l.subscriber.notice.value)).list l.subscriber.notice.value
      ≡ told_more ((goal.Notice-dyn g (l.fn.subscriber.notice.vtable, l.fn.subscriber.notice.value)).list l.fn.subscriber.notice.value)
      (recalls_for l.fn.subscriber.whom (take l.recall-index l.rest));
  wrote : Appends ((goal.Notice-dyn g (l.fn.subscriber.notice.vtable, l.fn.subscriber.notice.value)).text l.fn.subscriber.notice.value)
      ((goal.Notice-dyn g (l.subscriber.notice.vtable, l.subscriber.notice.value)).text l.subscriber.notice.value)
      (recall_lines (recalls_for l.fn.subscriber.whom (take l.recall-index l.rest)));
  stands : (goal.Notice-dyn g (l.subscriber.notice.vtable, l.subscriber.notice.value)).faults l.subscriber.notice.value
      ≡ (goal.Notice-dyn g (l.fn.subscriber.notice.vtable, l.fn.subscriber.notice.value)).faults l.fn.subscriber.notice.value;
}
