use Rattle.office_words.specs.declared.entry.Call.TheVariants as call
use Rattle.office_core.specs.Registers.{Costs}
use Rattle.office_core.proofs.register.Register.given.Goals as goal

pub returns-in-Submit-clause-cost : goal.returns-in-Submit-clause-cost
returns-in-Submit-clause-cost g c =
    let made : Costs c.args.self.now (call.Submit c.in-Submit.application c.in-Submit.proposal) c.args.steps.now c.submit.new.steps = (c.submit.ensures.early, c.submit.ensures.cost) in
    rw c.in-Submit.is made

pub returns-in-Held-clause-cost : goal.returns-in-Held-clause-cost
returns-in-Held-clause-cost g c =
    let made : Costs c.args.self.now (call.Held c.in-Held.application) c.args.steps.now c.held.new.steps = (c.held.ensures.early, c.held.ensures.cost) in
    rw c.in-Held.is made
