use Rattle.std.proofs.Common.{ap}
use Rattle.office_core.proofs.Seatings.{seated}
use Rattle.office_core.proofs.seat.OneSeat.step.Goals as goal

pub returns-clause-answered : goal.returns-clause-answered
returns-clause-answered g c = let step = c.step.ensures in
    seated _ c.args.self.now.caller c.args.self.now.office.now.office c.step.new.self.office c.args.call c.step.result step.full
    (λ full. ap (λ o. o.office) (step.unchanged full)) step.not_full step.grown step.legal
