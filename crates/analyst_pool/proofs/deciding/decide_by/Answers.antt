use Rattle.std.proofs.Common.{arith}
use Rattle.analyst_pool.proofs.Attempting.{attempted, base_stays, decided_behind, decided_within, none_yet, one_more}
use Rattle.analyst_pool.proofs.Followings.{follows_answered}
use Rattle.analyst_pool.proofs.deciding.decide_by.Goals as goal

pub loop-tries-init : goal.loop-tries-init
loop-tries-init g c = (none_yet _ _, c.requires.follows)

pub prepare-requires-clause-base : goal.prepare-requires-clause-base
prepare-requires-clause-base g c = base_stays _ _ _ _ _ c.loop-tries.invariant.0 c.requires.base

pub returns-in-Err-clause-decided : goal.returns-in-Err-clause-decided
returns-in-Err-clause-decided g c = decided_within _ _ _ _ _ _ (omega (arith, c.loop-tries-test.true)) c.loop-tries.invariant.0 c.in-Err.ensures.concluded

pub returns-in-Some-clause-decided : goal.returns-in-Some-clause-decided
returns-in-Some-clause-decided g c = decided_within _ _ _ _ _ _ (omega (arith, c.loop-tries-test.true)) c.loop-tries.invariant.0 (attempted _ _ _ _ _ _ c.in-Ok.ensures.prepared c.in-Some.ensures)

pub returns-in-Some-clause-follows : goal.returns-in-Some-clause-follows
returns-in-Some-clause-follows g c = follows_answered _ (g.C.OfficeCalls.view c.prepare.new.calls) (g.C.OfficeCalls.view c.submit.new.calls) _ _ c.submit.ensures.answered c.prepare.ensures.follows

pub loop-tries-preserved : goal.loop-tries-preserved
loop-tries-preserved g c = (
  one_more _ _ _ _ _ _ (omega arith) c.loop-tries.invariant.0 (attempted _ _ _ _ _ _ c.in-Ok.ensures.prepared c.in-None.ensures),
  follows_answered _ (g.C.OfficeCalls.view c.prepare.new.calls) (g.C.OfficeCalls.view c.submit.new.calls) _ _ c.submit.ensures.answered c.prepare.ensures.follows,
)

pub last_attempt-requires-clause-base : goal.last_attempt-requires-clause-base
last_attempt-requires-clause-base g c = base_stays _ _ _ _ _ c.loop-tries.invariant.0 c.requires.base

pub returns-clause-decided : goal.returns-clause-decided
returns-clause-decided g c = decided_behind _ _ _ _ _ _ c.loop-tries-test.false c.loop-tries.auto.tries-end c.loop-tries.invariant.0 c.last_attempt.ensures.decided
