use Rattle.analyst_pool.specs.Following.{MayFollow}
use Rattle.analyst_pool.proofs.Attempting.{SoFar}
use Rattle.analyst_pool.proofs.deciding.decide_by.Given as goal

abbrev pub invariant-loop-tries : goal.invariant-loop-tries
invariant-loop-tries g l = SoFar l.tries (g.C.OfficeCalls.view l.fn.calls) l.fn.application (g.C.OfficeCalls.view l.calls) × MayFollow l.finder.follower (g.C.OfficeCalls.view l.calls)
