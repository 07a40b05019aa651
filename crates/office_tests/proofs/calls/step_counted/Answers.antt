use Rattle.std.proofs.Common.{ap}
use Rattle.office_core.specs.Offices.{entry}
use Rattle.office_core.proofs.Later.{asked_after}
use Rattle.office_tests.proofs.calls.step_counted.Goals as goal

pub returns : goal.returns
returns g c = let s = c.step.ensures in
    asked_after c.args.office.now.office c.step.new.self.office (entry c.args.caller c.args.call c.step.result) (λ full. ap (λ o. o.office) (s.unchanged full)) s.grown
