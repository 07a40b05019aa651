use Rattle.notice_desk.specs.Standings.{AreNew, standings}
use Rattle.office_tests.proofs.notices.subscribers.Given as goal

abbrev pub invariant-listeners : goal.invariant-listeners
invariant-listeners g l = AreNew (standings (λ n. (goal.Notice-dyn g (n.vtable, n.value)).list n.value) l.subscribers)
