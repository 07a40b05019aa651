use Rattle.office_core.proofs.Retesting.{AlongOn}
use Rattle.office_core.proofs.register.Register.first_failing.Given as goal

abbrev pub invariant-places : goal.invariant-places
invariant-places g l = AlongOn l.self.base l.self.machine.postings l.seen l.truck l.segments l.i l.fn.steps l.steps
