use Rattle.journal_text.proofs.replies.status.Goals as goal

pub returns-in-Surrendered : goal.returns-in-Surrendered
returns-in-Surrendered c = rw c.in-Surrendered.is c.word-in-Surrendered.ensures
