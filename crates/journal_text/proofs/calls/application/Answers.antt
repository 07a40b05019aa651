use Rattle.std.proofs.Common.{◌∙◌, sym}
use Rattle.std.proofs.lemmas.Result.{on_ok_weaker}
use Rattle.journal_text.proofs.calls.application.Goals as goal

pub returns : goal.returns
returns c =
    on_ok_weaker c.days.result
    (λ last ws. rw (sym c.truck.ensures, sym c.from.ensures, sym c.to.ensures, sym c.first.ensures, sym c.last.ensures)
    (c.in_ok-named_place.ensures _ ∙ (c.in_ok-named_place-2.ensures _ ∙ (c.in_ok-named_place-3.ensures _ ∙ (c.in_ok-asked.ensures _ ∙ last ws)))))
    c.days.ensures
