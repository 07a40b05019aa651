use Rattle.std.proofs.Common.{◌∙◌}
use Rattle.std.proofs.lemmas.Result.{on_ok_weaker}
use Rattle.journal_text.proofs.replies.reply.Goals as goal

pub returns-in-NotNeeded : goal.returns-in-NotNeeded
returns-in-NotNeeded c = rw c.in-NotNeeded.is c.word.ensures

pub returns-in-Surrendered : goal.returns-in-Surrendered
returns-in-Surrendered c = rw c.in-Surrendered.is c.word-in-Surrendered.ensures

pub returns-in_ok-days-in-Shown : goal.returns-in_ok-days-in-Shown
returns-in_ok-days-in-Shown c =
    on_ok_weaker c.standing.result (λ last ws. rw c.in-Shown.is (c.in_ok-shown-in-Shown.ensures _ ∙ (c.in_ok-days-in-Shown.ensures _ ∙ last ws))) c.standing.ensures
