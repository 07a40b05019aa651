use Rattle.std.proofs.Common.{◌∙◌}
use Rattle.std.proofs.lemmas.Result.{on_ok_weaker}
use Rattle.journal_text.proofs.limits.effect.Goals as goal

pub returns : goal.returns
returns c = on_ok_weaker c.named.result (λ last ws. c.in_ok-named_fraction.ensures _ ∙ (c.in_ok-named_fraction-2.ensures _ ∙ last ws)) c.named.ensures
