use Rattle.office_core.proofs.Callings.{asked_still, seen_on}
use Rattle.office_tests.proofs.calls.ask.Goals as goal

pub returns-in_default-clause-seen : goal.returns-in_default-clause-seen
returns-in_default-clause-seen g c = seen_on (g.C.OfficeCalls.view c.args.calls.now) (g.C.OfficeCalls.view c.ask.new.self) _ _ c.ask.ensures

pub returns-in_default-clause-asked : goal.returns-in_default-clause-asked
returns-in_default-clause-asked g c = λ d. asked_still (g.C.OfficeCalls.view c.args.calls.now) (g.C.OfficeCalls.view c.ask.new.self) _ d _ c.ask.ensures
