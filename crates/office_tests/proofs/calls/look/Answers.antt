use Rattle.office_core.proofs.Callings.{asked_still, seen_on}
use Rattle.office_tests.proofs.calls.look.Goals as goal

pub returns-in-At-clause-seen : goal.returns-in-At-clause-seen
returns-in-At-clause-seen g c = seen_on (g.C.OfficeCalls.view c.args.calls.now) (g.C.OfficeCalls.view c.snapshot.new.self) _ _ c.in-At.ensures.0

pub returns-in-At-clause-asked : goal.returns-in-At-clause-asked
returns-in-At-clause-asked g c = λ d. asked_still (g.C.OfficeCalls.view c.args.calls.now) (g.C.OfficeCalls.view c.snapshot.new.self) _ d _ c.in-At.ensures.0

pub returns-in-NoMemory-clause-seen : goal.returns-in-NoMemory-clause-seen
returns-in-NoMemory-clause-seen g c = seen_on (g.C.OfficeCalls.view c.args.calls.now) (g.C.OfficeCalls.view c.snapshot.new.self) _ _ c.in-NoMemory.ensures.1

pub returns-in-NoMemory-clause-asked : goal.returns-in-NoMemory-clause-asked
returns-in-NoMemory-clause-asked g c = λ d. asked_still (g.C.OfficeCalls.view c.args.calls.now) (g.C.OfficeCalls.view c.snapshot.new.self) _ d _ c.in-NoMemory.ensures.1
