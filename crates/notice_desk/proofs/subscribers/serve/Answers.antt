use Rattle.std.proofs.Common.{◌-◌, drop, length, take}
use Rattle.std.proofs.lemmas.List.{take_rest}
use Rattle.notice_desk.specs.Standings.{standing_of}
use Rattle.notice_desk.proofs.Writing.{on_err, wrote_until}
use Rattle.notice_desk.proofs.subscribers.serve.Goals as goal

pub returns-in_err-tell_own-clause-part : goal.returns-in_err-tell_own-clause-part
returns-in_err-tell_own-clause-part g c =
    let s = c.args.subscriber.now in
    let rest = take (length c.args.recalls.now - s.passed) (drop s.passed c.args.recalls.now) in
    on_err c.from_residual.result
    (wrote_until c.args.recalls.now rest
    (standing_of (λ n. (goal.Notice-dyn g (n.vtable, n.value)).list n.value) s)
    (record { whom = c.loop-recall.subscriber.whom; passed = c.loop-recall.subscriber.passed; told = (goal.Notice-dyn g (c.tell_own.new.notice.vtable, c.tell_own.new.notice.value)).list c.tell_own.new.notice.value })
    c.loop-recall.recall-index c.recall-item.result _ _ _
    (take_rest c.args.recalls.now s.passed) c.loop-recall.invariant.passed c.loop-recall-test.true c.recall-item.is
    c.loop-recall.invariant.wrote c.in_err-tell_own.ensures.part)
