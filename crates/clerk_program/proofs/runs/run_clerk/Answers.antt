use Rattle.std.proofs.Common.{◌∙◌, Option, Some, ap, sym, subst}
use Rattle.command_line.specs.declared.asked.ClerkTask.{ClerkTask}
use Rattle.permit_program.specs.Runs.{IsRun, outside_of}
use Rattle.clerk_program.specs.Clerk.{permit_clerk}
use Rattle.clerk_program.proofs.runs.run_clerk.Goals as goal

pub returns-in-Ok-Certify-clause-run : goal.returns-in-Ok-Certify-clause-run
returns-in-Ok-Certify-clause-run g c = λ desk.
    let outside = outside_of g.S.Source g.K.Sink in
    let asked = c.in-Ok-Certify.ensures.asked ∙ ap (λ (t : ClerkTask). Some t) c.in-Ok-Certify.field-0-is in
    subst (λ (a : Option ClerkTask). IsRun permit_clerk a (outside c.args.source.now c.args.sink.now desk) (outside c.perform_certify.new.source c.perform_certify.new.sink desk) c.perform_certify.result)
    (sym asked) (c.perform_certify.ensures desk)

pub returns-in-Ok-Carry-clause-run : goal.returns-in-Ok-Carry-clause-run
returns-in-Ok-Carry-clause-run g c = λ desk.
    let outside = outside_of g.S.Source g.K.Sink in
    let asked = c.in-Ok-Carry.ensures.asked ∙ ap (λ (t : ClerkTask). Some t) c.in-Ok-Carry.field-0-is in
    subst (λ (a : Option ClerkTask). IsRun permit_clerk a (outside c.args.source.now c.args.sink.now desk) (outside c.perform_carry.new.source c.perform_carry.new.sink desk) c.perform_carry.result)
    (sym asked) (c.perform_carry.ensures.run desk)
