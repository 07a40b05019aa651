use Rattle.std.proofs.Common.{List, ℕ, refl, subst}
use Rattle.command_line.specs.declared.asked.ClerkTask.TheVariants as task
use Rattle.permit_program.specs.Command.{IsRefusalOf, Makes}
use Rattle.permit_program.specs.Endings.{AnswersText}
use Rattle.permit_program.specs.Runs.{outside_of}
use Rattle.permit_program.proofs.Ends.{ends_made, ends_refused, ends_unread}
use Rattle.clerk_program.specs.Carry.{carry}
use Rattle.clerk_program.specs.Clerk.{permit_clerk}
use Rattle.clerk_program.proofs.Statuses.{carry_named}
use Rattle.clerk_program.proofs.runs.perform_carry.Goals as goal

pub returns-in-Err-clause-run : goal.returns-in-Err-clause-run
returns-in-Err-clause-run g c = λ desk.
    let outside = outside_of g.S.Source g.K.Sink in
    let before = outside c.args.source.now c.args.sink.now desk in
    let after = outside c.take_bytes.new.source c.end_unread.new.sink desk in
    ends_unread permit_clerk (task.Carry c.args.in_force) before after c.take_bytes.ensures.most c.in-Err.unread c.end_unread.result c.in-Err.ensures.unread c.end_unread.ensures refl

pub returns-in-Err-carry_over-clause-run : goal.returns-in-Err-carry_over-clause-run
returns-in-Err-carry_over-clause-run g c = λ desk.
    let outside = outside_of g.S.Source g.K.Sink in
    let before = outside c.args.source.now c.args.sink.now desk in
    let after = outside c.take_bytes.new.source c.end_refused.new.sink desk in
    let bytes = c.in-Ok.bytes.items in
    let refused = subst (λ (b : List ℕ). IsRefusalOf (carry c.args.in_force) b c.in-Err-carry_over.refusal) c.as_slice.ensures.value c.in-Err-carry_over.ensures.refused in
    ends_refused permit_clerk (task.Carry c.args.in_force) before after c.take_bytes.ensures.most bytes c.in-Ok.ensures.took c.in-Ok.ensures.few c.in-Ok.ensures.calm (carry_named c.args.in_force)
    c.in-Err-carry_over.refusal c.end_refused.result refused c.end_refused.ensures refl

pub returns-clause-run : goal.returns-clause-run
returns-clause-run g c = λ desk.
    let outside = outside_of g.S.Source g.K.Sink in
    let before = outside c.args.source.now c.args.sink.now desk in
    let after = outside c.take_bytes.new.source c.end_made-status.new.sink desk in
    let bytes = c.in-Ok.bytes.items in
    let text = c.in-Ok-carry_over.carried.text.items in
    let made = subst (λ (b : List ℕ). Makes (carry c.args.in_force) b text) c.as_slice.ensures.value c.in-Ok-carry_over.ensures.made in
    let answered : AnswersText text before.sink after.sink c.end_made-status.result =
    subst (λ (t : List ℕ). AnswersText t before.sink after.sink c.end_made-status.result) c.as_slice-2.ensures.value c.end_made-status.ensures in
    ends_made permit_clerk (task.Carry c.args.in_force) before after c.take_bytes.ensures.most bytes c.in-Ok.ensures.took c.in-Ok.ensures.few c.in-Ok.ensures.calm text made
    c.end_made-status.result answered (λ is. refl) refl
