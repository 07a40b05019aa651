use Rattle.std.proofs.Common.{◌∙◌}
use Rattle.std.proofs.lemmas.Result.{on_ok_weaker}
use Rattle.journal_text.proofs.replies.not_in_force.Goals as goal

pub returns : goal.returns
returns c = on_ok_weaker c.status.result (λ last ws. c.in_ok-word.ensures _ ∙ last ws) c.status.ensures
