use Rattle.std.proofs.Common.{Bool, List, ℕ, refl, subst}
use Rattle.permit_program.specs.Command.{IsRefusalOf, Makes}
use Rattle.permit_program.specs.Commands.{command_of}
use Rattle.permit_program.specs.Endings.{AnswersText}
use Rattle.permit_program.specs.Runs.{Took, outside_of, permit_cli}
use Rattle.permit_program.proofs.Ends.{ends_made, ends_refused}
use Rattle.permit_program.proofs.Lawful.{lawful, tells_nobody}
use Rattle.permit_program.proofs.runs.perform.Goals as goal

pub returns-in-Ok-make_text : goal.returns-in-Ok-make_text
returns-in-Ok-make_text g c = λ desk.
    let outside = outside_of g.S.Source g.K.Sink in
    let before = outside c.args.source.now c.args.sink.now desk in
    let after = outside c.take_bytes.new.source c.end_made.new.sink desk in
    let asked = c.args.asked in
    let bytes = c.in-Ok.bytes.items in
    let text = c.in-Ok-make_text.text.items in
    let took : Took (command_of asked).reads before.source after.source bytes = subst (λ (r : Bool). Took r before.source after.source bytes) c.reads.ensures c.in-Ok.ensures.took in
    let made : Makes (command_of asked) bytes text = subst (λ (b : List ℕ). Makes (command_of asked) b text) c.as_slice.ensures.value c.in-Ok-make_text.ensures.made in
    let answered : AnswersText text before.sink after.sink c.end_made.result = subst (λ (t : List ℕ). AnswersText t before.sink after.sink c.end_made.result) c.as_slice-in-Ok-make_text.ensures.value c.end_made.ensures in
    ends_made permit_cli asked before after c.take_bytes.ensures.most bytes took c.in-Ok.ensures.few c.in-Ok.ensures.calm text made c.end_made.result answered (λ is. tells_nobody asked.task asked.options c.requires.alone bytes text made.output) refl

pub returns : goal.returns
returns g c = λ desk.
    let outside = outside_of g.S.Source g.K.Sink in
    let before = outside c.args.source.now c.args.sink.now desk in
    let after = outside c.take_bytes.new.source c.end_refused.new.sink desk in
    let asked = c.args.asked in
    let bytes = c.in-Ok.bytes.items in
    let took : Took (command_of asked).reads before.source after.source bytes = subst (λ (r : Bool). Took r before.source after.source bytes) c.reads.ensures c.in-Ok.ensures.took in
    let refused : IsRefusalOf (command_of asked) bytes c.in-Err-make_text.refusal = subst (λ (b : List ℕ). IsRefusalOf (command_of asked) b c.in-Err-make_text.refusal) c.as_slice.ensures.value c.in-Err-make_text.ensures.refused in
    ends_refused permit_cli asked before after c.take_bytes.ensures.most bytes took c.in-Ok.ensures.few c.in-Ok.ensures.calm (lawful asked.task asked.options).statuses c.in-Err-make_text.refusal c.end_refused.result refused c.end_refused.ensures refl
