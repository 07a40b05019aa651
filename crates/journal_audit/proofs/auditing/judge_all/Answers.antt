use Rattle.journal_audit.proofs.Passing.{bad_next, has_mark, judged_more, judged_none, named_next, room}
use Rattle.journal_audit.proofs.auditing.judge_all.Goals as goal

pub entries-init : goal.entries-init
entries-init g c = judged_none c.args.auditor.now c.args.day c.args.history.now c.requires.opened

pub judge-requires-clause-room : goal.judge-requires-clause-room
judge-requires-clause-room g c = room c.args.auditor.now.replay.base c.args.day c.args.history.now c.entries.i c.entries.auditor c.entries.invariant c.entries-test.true c.requires.few

pub judge-requires-clause-mark : goal.judge-requires-clause-mark
judge-requires-clause-mark g c = has_mark c.args.auditor.now.replay.base c.args.day c.args.history.now c.entries.i c.entries.auditor c.entries.invariant c.entries-test.true

pub judge-requires-clause-named : goal.judge-requires-clause-named
judge-requires-clause-named g c =
    named_next c.args.auditor.now.replay.base c.args.day c.args.history.now c.entries.i c.entries.auditor c.entries.invariant c.entries-test.true c.index-history-i.result c.index-history-i.is

pub entries-preserved : goal.entries-preserved
entries-preserved g c =
    judged_more c.args.auditor.now.replay.base c.args.day c.args.history.now c.entries.i c.entries.auditor c.entries.invariant c.entries-test.true c.index-history-i.result c.index-history-i.is c.judge.new.self (c.in_ok-judge.ensures.passed c.if-not-branch.false)

pub returns-then-not-branch : goal.returns-then-not-branch
returns-then-not-branch g c =
    bad_next c.args.auditor.now.replay.base c.args.day c.args.history.now c.entries.i c.entries.auditor c.entries.invariant c.entries-test.true c.index-history-i.result c.index-history-i.is (c.in_ok-judge.ensures.failed c.if-not-branch.true)
