use Rattle.std.proofs.Common.{◌-◌, length}
use Rattle.office_core.proofs.Retesting.{CutOn}
use Rattle.office_core.proofs.register.Register.first_meeting.Given as goal

abbrev pub invariant-out : goal.invariant-out
invariant-out g l = CutOn l.self.base l.self.machine.postings l.seen l.truck l.nodes l.from l.fn.steps l.steps

abbrev pub decreases-out : goal.decreases-out
decreases-out g l = length l.self.base.roads.segments - l.from
