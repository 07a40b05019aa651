use Rattle.std.proofs.Common.{ℕ, subst, arith}
use Rattle.office_core.specs.Machine.{version_of}
use Rattle.office_core.specs.Registers.{IsRetested, RegisterParts}
use Rattle.office_core.proofs.Retesting.{within_now}
use Rattle.office_core.proofs.register.Register.held.Goals as goal

pub returns-in_ok-proposal-in-None-clause-cost : goal.returns-in_ok-proposal-in-None-clause-cost
returns-in_ok-proposal-in-None-clause-cost g c =
    let r = c.args.self.now in let p = c.in_ok-proposal-in-None.proposal in
    let before = c.find.new.steps in let now = c.answer_found.new.steps in
    let there : IsRetested r (version_of r.machine) p.what before now =
    subst (λ (n : ℕ). IsRetested r n p.what before now) c.in_ok-proposal-in-None.ensures.seen
    (subst (λ (k : RegisterParts). IsRetested k p.seen p.what before now) c.find.ensures.same c.answer_found.ensures.cost) in
    omega (arith, c.find.ensures.cost, within_now r.base r.machine.postings p.what before now there)
