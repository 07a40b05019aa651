use Rattle.std.proofs.Common.{◌∙◌}
use Rattle.std.proofs.lemmas.Result.{on_ok_weaker}
use Rattle.journal_text.proofs.limits.span_limit.Goals as goal

pub returns-in_ok-named_place-in-Moment-2 : goal.returns-in_ok-named_place-in-Moment-2
returns-in_ok-named_place-in-Moment-2 c =
    on_ok_weaker c.effect.result (λ last ws. rw c.in-Moment.is (c.in_ok-named_place-in-Moment.ensures _ ∙ (c.in_ok-named_place-in-Moment-2.ensures _ ∙ last ws))) c.effect.ensures
