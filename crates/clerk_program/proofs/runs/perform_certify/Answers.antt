use Rattle.std.proofs.Common.{List, ℕ, refl, subst}
use Rattle.command_line.specs.declared.asked.ClerkTask.TheVariants as task
use Rattle.permit_program.specs.Command.{IsRefusalOf, Makes}
use Rattle.permit_program.specs.Endings.{AnswersText}
use Rattle.permit_program.specs.Runs.{outside_of}
use Rattle.permit_program.proofs.Ends.{ends_made, ends_refused, ends_unread}
use Rattle.clerk_program.specs.Certify.{certify}
use Rattle.clerk_program.specs.Clerk.{permit_clerk}
use Rattle.clerk_program.proofs.Statuses.{certify_named}
use Rattle.clerk_program.proofs.runs.perform_certify.Goals as goal

pub returns-in-Err : goal.returns-in-Err
returns-in-Err g c = λ desk.
    let outside = outside_of g.S.Source g.K.Sink in
    let before = outside c.args.source.now c.args.sink.now desk in
    let after = outside c.take_bytes.new.source c.end_unread.new.sink desk in
    ends_unread permit_clerk task.Certify before after c.take_bytes.ensures.most c.in-Err.unread c.end_unread.result c.in-Err.ensures.unread c.end_unread.ensures refl

pub returns-in-Ok-make_certificate : goal.returns-in-Ok-make_certificate
returns-in-Ok-make_certificate g c = λ desk.
    let outside = outside_of g.S.Source g.K.Sink in
    let before = outside c.args.source.now c.args.sink.now desk in
    let after = outside c.take_bytes.new.source c.end_made.new.sink desk in
    let bytes = c.in-Ok.bytes.items in
    let text = c.in-Ok-make_certificate.text.items in
    let made : Makes certify bytes text = subst (λ (b : List ℕ). Makes certify b text) c.as_slice.ensures.value c.in-Ok-make_certificate.ensures.made in
    let answered : AnswersText text before.sink after.sink c.end_made.result =
    subst (λ (t : List ℕ). AnswersText t before.sink after.sink c.end_made.result) c.as_slice-in-Ok-make_certificate.ensures.value c.end_made.ensures in
    ends_made permit_clerk task.Certify before after c.take_bytes.ensures.most bytes c.in-Ok.ensures.took c.in-Ok.ensures.few c.in-Ok.ensures.calm text made c.end_made.result answered (λ is. refl) refl

pub returns : goal.returns
returns g c = λ desk.
    let outside = outside_of g.S.Source g.K.Sink in
    let before = outside c.args.source.now c.args.sink.now desk in
    let after = outside c.take_bytes.new.source c.end_refused.new.sink desk in
    let bytes = c.in-Ok.bytes.items in
    let refused : IsRefusalOf certify bytes c.in-Err-make_certificate.refusal =
    subst (λ (b : List ℕ). IsRefusalOf certify b c.in-Err-make_certificate.refusal) c.as_slice.ensures.value c.in-Err-make_certificate.ensures.refused in
    ends_refused permit_clerk task.Certify before after c.take_bytes.ensures.most bytes c.in-Ok.ensures.took c.in-Ok.ensures.few c.in-Ok.ensures.calm certify_named c.in-Err-make_certificate.refusal c.end_refused.result refused c.end_refused.ensures refl
