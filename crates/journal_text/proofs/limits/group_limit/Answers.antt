use Rattle.std.proofs.Common.{◌∙◌}
use Rattle.std.proofs.lemmas.Result.{on_ok_weaker}
use Rattle.journal_text.proofs.limits.group_limit.Goals as goal

pub returns-in_ok-named-in-Group-2 : goal.returns-in_ok-named-in-Group-2
returns-in_ok-named-in-Group-2 c =
    on_ok_weaker c.named-in-Group-2.result
    (λ last ws. rw c.in-Group.is
    (c.in_ok-named_place-in-Group.ensures _ ∙ (c.in_ok-named_group-in-Group.ensures _ ∙ (c.in_ok-named-in-Group.ensures _ ∙ (c.in_ok-named-in-Group-2.ensures _ ∙ last ws)))))
    c.named-in-Group-2.ensures

pub returns-in_ok-named-in-Tridem : goal.returns-in_ok-named-in-Tridem
returns-in_ok-named-in-Tridem c =
    on_ok_weaker c.named-in-Tridem-2.result
    (λ last ws. rw c.in-Tridem.is (c.in_ok-named_place-in-Tridem.ensures _ ∙ (c.in_ok-named_group-in-Tridem.ensures _ ∙ (c.in_ok-named-in-Tridem.ensures _ ∙ last ws))))
    c.named-in-Tridem-2.ensures
