use Rattle.journal_audit.proofs.Following.{one_behind, still_versions}
use Rattle.journal_audit.proofs.Differing.{differs, not_both}
use Rattle.journal_audit.proofs.auditor.Auditor.compare.Goals as goal

pub returns-then-not-are_same_replies : goal.returns-then-not-are_same_replies
returns-then-not-are_same_replies g c = let r = c.args.self.now.replay in let again = c.answer-reply in record {
  passed = λ e. absurd (cc);
  failed = λ _. differs r.base r.machine c.args.entry.now again.result again.ensures.answer c.in_default.not-NoMemory c.requires.memory
      (λ same. not_both c.are_same_replies.result (c.are_same_replies.ensures.1 same) c.if-not-are_same_replies.true);
}

pub go_on-requires : goal.go_on-requires
go_on-requires g c =
    let r = c.args.self.now.replay in let v = c.args.self.now.versions in let e = c.args.entry.now in let again = c.answer-reply in record {
      versions = still_versions r again.new.self e.caller e.call again.result again.ensures.base again.ensures.after v c.requires.auditor.versions;
      last = one_behind r again.new.self e.caller e.call again.result again.ensures.base again.ensures.after v c.requires.auditor.all;
    }
