use Rattle.journal_audit.proofs.Passing.{HasJudged}
use Rattle.journal_audit.proofs.auditing.judge_all.Given as goal

abbrev pub invariant-entries : goal.invariant-entries
invariant-entries g l = HasJudged l.fn.auditor.replay.base l.fn.day l.history l.i l.auditor
