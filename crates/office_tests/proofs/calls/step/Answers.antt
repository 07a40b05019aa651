use Rattle.office_core.specs.Offices.{entry}
use Rattle.office_core.proofs.Later.{asked_after}
use Rattle.office_tests.proofs.calls.step.Goals as goal

pub returns : goal.returns
returns g c = let s = c.step.ensures in asked_after c.args.office.now c.step.new.self (entry c.args.caller c.args.call c.step.result) s.unchanged s.grown
