use Rattle.std.proofs.Common.{rules, arith, ◌≡◌}
use Rattle.trip_analysis.specs.Applications.{Sound}
use Rattle.analyst_pool.proofs.Followings.{follows_answered}
use Rattle.analyst_pool.proofs.Attempting.{again_held, attempted, ends_after, holds, lacks_copy}
use Rattle.analyst_pool.proofs.deciding.last_attempt.Goals as goal

pub returns-in-Err-clause-decided : goal.returns-in-Err-clause-decided
returns-in-Err-clause-decided g c = ends_after 7 _ _ _ _ (omega arith) c.in-Err.ensures.concluded

pub returns-in-Err-try_clone-clause-decided : goal.returns-in-Err-try_clone-clause-decided
returns-in-Err-try_clone-clause-decided g c = ends_after 7 _ _ _ _ (omega arith) (lacks_copy _ _ _ _ c.in-Ok.ensures.prepared)

pub returns-in-Some-clause-decided : goal.returns-in-Some-clause-decided
returns-in-Some-clause-decided g c = ends_after 7 _ _ _ _ (omega arith) (attempted _ _ _ _ _ _ c.in-Ok.ensures.prepared c.in-Some.ensures)

pub returns-in-None-clause-decided : goal.returns-in-None-clause-decided
returns-in-None-clause-decided g c =
    let base : c.args.errand.now.base.now ≡ (g.C.OfficeCalls.view c.submit.new.calls).who.base = search rules in
    let sound : Sound c.args.errand.now.base.now c.in-Ok-try_clone.copy = search rules in
    again_held _ _ _ _ _ _ (attempted _ _ _ _ _ _ c.in-Ok.ensures.prepared c.in-None.ensures) c.in-Ok-try_clone.ensures
    (holds _ _ _ _ _ base c.lists_are_in_order.ensures.roads sound c.held.ensures)

pub returns-in-Some-clause-follows : goal.returns-in-Some-clause-follows
returns-in-Some-clause-follows g c = follows_answered _ (g.C.OfficeCalls.view c.prepare.new.calls) (g.C.OfficeCalls.view c.submit.new.calls) _ _ c.submit.ensures.answered c.prepare.ensures.follows

pub returns-in-None-clause-follows : goal.returns-in-None-clause-follows
returns-in-None-clause-follows g c =
    let submitted = follows_answered _ (g.C.OfficeCalls.view c.prepare.new.calls) (g.C.OfficeCalls.view c.submit.new.calls) _ _ c.submit.ensures.answered c.prepare.ensures.follows in
    follows_answered _ (g.C.OfficeCalls.view c.submit.new.calls) (g.C.OfficeCalls.view c.held.new.self) _ _ c.held.ensures submitted
