use Rattle.std.proofs.Common.{◌∙◌}
use Rattle.std.proofs.lemmas.Result.{on_ok_weaker}
use Rattle.journal_text.proofs.calls.call.Goals as goal

pub returns-in_ok-named-in-Submit : goal.returns-in_ok-named-in-Submit
returns-in_ok-named-in-Submit c =
    on_ok_weaker c.what.result
    (λ last ws. rw c.in-Submit.is (c.in_ok-word-in-Submit.ensures _ ∙ (c.in_ok-application-in-Submit.ensures _ ∙ (c.in_ok-named-in-Submit.ensures _ ∙ last ws))))
    c.what.ensures

pub returns-in_ok-word-in-Held : goal.returns-in_ok-word-in-Held
returns-in_ok-word-in-Held c = on_ok_weaker c.application-in-Held.result (λ last ws. rw c.in-Held.is (c.in_ok-word-in-Held.ensures _ ∙ last ws)) c.application-in-Held.ensures

pub returns-in-Surrender : goal.returns-in-Surrender
returns-in-Surrender c = rw c.in-Surrender.is c.named-in-Surrender.ensures
