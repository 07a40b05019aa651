use Rattle.analyst_pool.proofs.Attempting.{prepared, full_ahead, lacks_after}
use Rattle.analyst_pool.proofs.Followings.{follows_answered, follows_snapshot}
use Rattle.analyst_pool.proofs.deciding.prepare.Goals as goal

pub returns-in-Ok-try_clone-clause-prepared : goal.returns-in-Ok-try_clone-clause-prepared
returns-in-Ok-try_clone-clause-prepared g c =
    prepared (g.C.OfficeCalls.view c.args.calls.now) (g.C.OfficeCalls.view c.snapshot.new.self) _ _ _ _ c.requires.base c.requires.sound c.in-At.ensures c.in-Ok-try_clone.ensures c.in-Ok.ensures.seen c.in-Ok.ensures.found

pub returns-in-NoMemory-clause-follows : goal.returns-in-NoMemory-clause-follows
returns-in-NoMemory-clause-follows g c = let (version, answered) = c.in-NoMemory.ensures in
    follows_answered _ (g.C.OfficeCalls.view c.args.calls.now) (g.C.OfficeCalls.view c.snapshot.new.self) _ _ answered c.requires.follows

pub find-requires-clause-follows : goal.find-requires-clause-follows
find-requires-clause-follows g c =
    follows_snapshot _ (g.C.OfficeCalls.view c.args.calls.now) (g.C.OfficeCalls.view c.snapshot.new.self) _ _ c.requires.base c.in-At.ensures c.requires.follows

pub returns-in-NoMemory-clause-concluded : goal.returns-in-NoMemory-clause-concluded
returns-in-NoMemory-clause-concluded g c = let (version, answered) = c.in-NoMemory.ensures in
    lacks_after (g.C.OfficeCalls.view c.args.calls.now) (g.C.OfficeCalls.view c.snapshot.new.self) _ version answered

pub returns-in-Full-clause-concluded : goal.returns-in-Full-clause-concluded
returns-in-Full-clause-concluded g c =
    full_ahead (g.C.OfficeCalls.view c.args.calls.now) (g.C.OfficeCalls.view c.snapshot.new.self) _ _ c.in-Full.ensures

pub returns-in-Err-clause-concluded : goal.returns-in-Err-clause-concluded
returns-in-Err-clause-concluded g c =
    lacks_after (g.C.OfficeCalls.view c.args.calls.now) (g.C.OfficeCalls.view c.snapshot.new.self) _ _ c.in-At.ensures.0

pub returns-in-Err-try_clone-clause-concluded : goal.returns-in-Err-try_clone-clause-concluded
returns-in-Err-try_clone-clause-concluded g c =
    lacks_after (g.C.OfficeCalls.view c.args.calls.now) (g.C.OfficeCalls.view c.snapshot.new.self) _ _ c.in-At.ensures.0
