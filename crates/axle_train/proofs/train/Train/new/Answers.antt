use Rattle.std.proofs.Common.{refl, sym, ◌∙◌}
use Rattle.axle_train.proofs.Accepted.{is_train}
use Rattle.axle_train.proofs.Causes.{is_refused, train_not_refused}
use Rattle.axle_train.proofs.train.Train.new.Goals as goal

pub invariant_of-result : goal.invariant_of-result
invariant_of-result c = rw c.copied.ensures.front (refl, is_train c.args.axles.now (sym c.refusal.ensures ∙ c.in_default.is), c.weights_before.ensures)

pub returns-clause-accepted : goal.returns-clause-accepted
returns-clause-accepted c = (λ _. is_train c.args.axles.now (sym c.refusal.ensures ∙ c.in_default.is), λ _. refl)

pub returns-in-Some-clause-accepted : goal.returns-in-Some-clause-accepted
returns-in-Some-clause-accepted c = (λ no. absurd cc, λ train. absurd (train_not_refused c.args.axles.now c.in-Some.refusal train (is_refused c.args.axles.now c.in-Some.refusal (sym c.refusal.ensures ∙ c.in-Some.is))))

pub returns-in-Some-clause-cause : goal.returns-in-Some-clause-cause
returns-in-Some-clause-cause c = is_refused c.args.axles.now c.in-Some.refusal (sym c.refusal.ensures ∙ c.in-Some.is)
