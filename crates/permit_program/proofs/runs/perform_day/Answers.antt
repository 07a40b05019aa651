use Rattle.std.proofs.Common.{rules, ◌≡◌, ℕ, List, Option, Some, refl, sym, subst}
use Rattle.std.specs.Io.KnownBytes.{Appends}
use Rattle.notice_desk.specs.Deliveries.{Delivered, StoppedAt}
use Rattle.notice_desk.specs.Lines.{EachWrote, WroteUntilAt}
use Rattle.notice_desk.specs.declared.notice.Recall.{Recall}
use Rattle.permit_program.specs.Command.{IsRefusalOf, MakesAndTells}
use Rattle.permit_program.specs.Commands.{command_of}
use Rattle.permit_program.specs.Day.{day}
use Rattle.permit_program.specs.Headline.{CountedHeadline}
use Rattle.permit_program.specs.Endings.{AnswersText}
use Rattle.permit_program.specs.Runs.{IsRun, Told, Took, desk_at, outside_of, permit_cli}
use Rattle.permit_program.proofs.Ends.{ends_made, ends_refused, ends_untold, of_a_day, whole}
use Rattle.permit_program.proofs.Lawful.{lawful}
use Rattle.permit_program.proofs.runs.perform_day.Goals as goal
use Rattle.permit_program.proofs.runs.perform_day.Goals.{in-Ok-deliver, in-Err-deliver}

pub returns-in-Err-make_journal-clause-run : goal.returns-in-Err-make_journal-clause-run
returns-in-Err-make_journal-clause-run g c = λ asked is.
    let outside = outside_of g.S.Source g.K.Sink in
    let desk_now = desk_at (λ v. (g.dyn-1.0.entry v).1) in
    let before = outside c.args.source.now c.args.sink.now (desk_now c.args.notices.now) in
    let after = outside c.take_bytes.new.source c.end_refused.new.sink (desk_now c.args.notices.now) in
    let bytes = c.in-Ok.bytes.items in
    let took : Took (command_of asked).reads before.source after.source bytes = of_a_day asked is (λ d. Took d.reads before.source after.source bytes) c.in-Ok.ensures.took in
    let refusal = c.in-Err-make_journal.refusal in
    let refused : IsRefusalOf (command_of asked) bytes refusal = of_a_day asked is (λ d. IsRefusalOf d bytes refusal)
    (subst (λ (b : List ℕ). IsRefusalOf day b refusal) c.as_slice.ensures.value c.in-Err-make_journal.ensures.refused) in
    subst (λ (n : ℕ). IsRun permit_cli (Some asked) before after n) (sym c.uncounted-in-Err-make_journal.ensures.status)
    (ends_refused permit_cli asked before after c.take_bytes.ensures.most bytes took c.in-Ok.ensures.few c.in-Ok.ensures.calm (lawful asked.task asked.options).statuses refusal c.end_refused.result refused c.end_refused.ensures refl)

pub returns-then-status-ne0-clause-run : goal.returns-then-status-ne0-clause-run
returns-then-status-ne0-clause-run g c = λ asked is.
    let outside = outside_of g.S.Source g.K.Sink in
    let desk_now = desk_at (λ v. (g.dyn-1.0.entry v).1) in
    let before = outside c.args.source.now c.args.sink.now (desk_now c.args.notices.now) in
    let after = outside c.take_bytes.new.source c.end_made-status.new.sink (desk_now c.args.notices.now) in
    let bytes = c.in-Ok.bytes.items in
    let text = c.in-Ok-make_journal.day.journal.items in
    let recalls = c.in-Ok-make_journal.day.recalls.items in
    let took : Took (command_of asked).reads before.source after.source bytes = of_a_day asked is (λ d. Took d.reads before.source after.source bytes) c.in-Ok.ensures.took in
    let made : MakesAndTells (command_of asked) bytes text recalls = of_a_day asked is (λ d. MakesAndTells d bytes text recalls)
    (subst (λ (b : List ℕ). MakesAndTells day b text recalls) c.as_slice.ensures.value c.in-Ok-make_journal.ensures.made) in
    let answered : AnswersText text before.sink after.sink c.end_made-status.result = subst (λ (t : List ℕ). AnswersText t before.sink after.sink c.end_made-status.result) c.as_slice-2.ensures.value c.end_made-status.ensures in
    subst (λ (n : ℕ). IsRun permit_cli (Some asked) before after n) (sym c.uncounted-then-status-ne0.ensures.status)
    (ends_made permit_cli asked before after c.take_bytes.ensures.most bytes took c.in-Ok.ensures.few c.in-Ok.ensures.calm text made.made c.end_made-status.result answered (λ zero. absurd (c.if-status-ne0.true zero)) refl)

pub returns-clause-run : goal.returns-clause-run
returns-clause-run g c = λ asked is.
    let outside = outside_of g.S.Source g.K.Sink in
    let desk_now = desk_at (λ v. (g.dyn-1.0.entry v).1) in
    let before = outside c.args.source.now c.args.sink.now (desk_now c.args.notices.now) in
    let after = outside c.take_bytes.new.source c.end_made-status.new.sink (desk_now c.deliver.new.self) in
    let bytes = c.in-Ok.bytes.items in
    let took : Took (command_of asked).reads before.source after.source bytes = of_a_day asked is (λ d. Took d.reads before.source after.source bytes) c.in-Ok.ensures.took in
    let text = c.in-Ok-make_journal.day.journal.items in
    let recalls = c.in-Ok-make_journal.day.recalls.items in
    let made : MakesAndTells (command_of asked) bytes text recalls = of_a_day asked is (λ d. MakesAndTells d bytes text recalls)
    (subst (λ (b : List ℕ). MakesAndTells day b text recalls) c.as_slice.ensures.value c.in-Ok-make_journal.ensures.made) in
    let zero : c.end_made-status.result ≡ 0 = search rules in
    let whole_text = c.end_made-status.ensures.whole zero in
    let wrote : Appends before.sink.held after.sink.held text = subst (Appends before.sink.held after.sink.held) c.as_slice-2.ensures.value whole_text.0 in
    let told = c.as_slice-3.ensures.value in
    elim c.match-deliver.branch [
      | in-Ok-deliver w ↦
          let heard = w.in-Ok-deliver.ensures in
          let delivered : Delivered before.desk.standings recalls after.desk.standings = subst (λ (rs : List Recall). Delivered before.desk.standings rs after.desk.standings) told heard.done in
          let lines : EachWrote before.desk.standings recalls before.desk.texts after.desk.texts = subst (λ (rs : List Recall). EachWrote before.desk.standings rs before.desk.texts after.desk.texts) told heard.wrote in
          subst (λ (n : ℕ). IsRun permit_cli (Some asked) before after n) (sym w.status-is)
          (whole permit_cli asked before after c.take_bytes.ensures.most bytes took c.in-Ok.ensures.few c.in-Ok.ensures.calm text made.made wrote whole_text.1
          (subst (λ (rs : Option (List Recall)). Told rs before.desk after.desk) (sym made.told) (delivered, heard.stands, lines)))
      | in-Err-deliver w ↦
          let heard = w.in-Err-deliver.ensures in
          let place = w.in-Err-deliver.field-0.at in
          subst (λ (n : ℕ). IsRun permit_cli (Some asked) before after n) (sym w.status-is)
          (ends_untold permit_cli asked before after c.take_bytes.ensures.most bytes took c.in-Ok.ensures.few c.in-Ok.ensures.calm text made.made recalls place made.told wrote whole_text.1
          (subst (λ (rs : List Recall). StoppedAt place before.desk.standings rs after.desk.standings) told heard.stopped)
          heard.fault
          (subst (λ (rs : List Recall). WroteUntilAt place before.desk.standings rs after.desk.standings before.desk.texts after.desk.texts) told heard.part))
    ]

pub returns-clause-counted : goal.returns-clause-counted
returns-clause-counted g c = λ is.
    let held = g.K.Sink.held in
    let text = c.in-Ok-make_journal.day.journal.items in
    let zero : c.end_made-status.result ≡ 0 = search rules in
    record {
      bytes = c.in-Ok.bytes.items;
      journal = text;
      took = c.in-Ok.ensures.took;
      wrote = subst (Appends (held c.args.sink.now) (held c.end_made-status.new.sink)) c.as_slice-2.ensures.value (c.end_made-status.ensures.whole zero).0;
      counted = subst (λ (b : List ℕ). CountedHeadline c.in-Ok-make_journal.day.readings b text) c.as_slice.ensures.value c.in-Ok-make_journal.ensures.counted;
    }
