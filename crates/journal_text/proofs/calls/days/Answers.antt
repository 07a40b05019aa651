use Rattle.std.proofs.Common.{◌∙◌}
use Rattle.std.proofs.lemmas.Result.{on_ok_weaker}
use Rattle.journal_text.proofs.calls.days.Goals as goal

pub returns : goal.returns
returns c = on_ok_weaker c.day-2.result (λ last ws. c.in_ok-word.ensures _ ∙ (c.in_ok-day.ensures _ ∙ last ws)) c.day-2.ensures
