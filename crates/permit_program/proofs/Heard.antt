-- What one listener has heard of a day.
use Rattle.std.proofs.Common.{◌≡◌, ◌∙◌, ℕ, List, [], ◌∷◌, ◌++◌, Option, Some, None, refl, ap, subst}
use Rattle.notice_desk.specs.Lines.{EachWrote, Texts, recall_lines}
use Rattle.notice_desk.specs.Notices.{recalls_for}
use Rattle.notice_desk.specs.Standings.{Standing, new_standing}
use Rattle.notice_desk.specs.declared.notice.Recall.{Recall}
use Rattle.notice_desk.specs.declared.notice.Whom.TheVariants as whom
use Rattle.reroute_desk.specs.RecallLists.{recalls_in}
use Rattle.permit_program.specs.Laws.{ListenersHearAll, HasListener, HeardAll}
use Rattle.permit_program.specs.Runs.{Outside, WroteAll}
use Rattle.command_line.specs.declared.asked.Task.{Task}
use Rattle.permit_program.specs.Commands.{command_by}
use Rattle.permit_program.specs.Day.{day}

-- all recalls are for one who is told of all
all_for : (recalls : List Recall) → recalls_for whom.All recalls ≡ recalls
all_for [] = refl
all_for (recall ∷ recalls) = ap (λ l. recall ∷ l) (all_for recalls)

-- the text of one listener, and no other
one_wrote : (told : Option (List Recall)) (recalls : List Recall) (text : List ℕ) (now : Texts)
    → EachWrote (new_standing whom.All told ∷ []) recalls (Some text ∷ []) now → now ≡ Some (text ++ recall_lines recalls) ∷ []
one_wrote told recalls text [] wrote = absurd wrote
one_wrote told recalls text (None ∷ now) (wrote, rest) = absurd wrote
one_wrote told recalls text (Some new ∷ now) (wrote, rest) =
    ap (λ l. Some new ∷ l) rest ∙ ap (λ l. Some l ∷ []) (wrote ∙ ap (λ rs. text ++ recall_lines rs) (all_for recalls))

heard : {S K : Type 0} (text : List ℕ) (before after : Outside S K) → HasListener text before.desk → WroteAll day before after → HeardAll text before after
heard text before after listener done =
    let recalls = recalls_in done.made.output.file.base done.made.output.history in
    let wrote : EachWrote (new_standing whom.All listener.told ∷ []) recalls (Some text ∷ []) after.desk.texts =
    subst (λ (texts : Texts). EachWrote (new_standing whom.All listener.told ∷ []) recalls texts after.desk.texts) listener.wrote
    (subst (λ (ss : List Standing). EachWrote ss recalls before.desk.texts after.desk.texts) listener.standing done.told.2) in
    record {
      bytes = done.bytes;
      journal = done.text;
      took = done.took;
      headline = done.made.output;
      wrote = done.wrote;
      lines = one_wrote listener.told recalls text after.desk.texts wrote;
    }

pub heard_all : {S K : Type 0} → ListenersHearAll S K
heard_all text None before after is listener run = absurd is
heard_all text (Some a) before after is listener run =
    heard text before after listener (subst (λ (t : Task). WroteAll (command_by t a.options) before after) is (run.done refl))
