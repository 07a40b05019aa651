use Rattle.office_core.proofs.Registers.{elsewhere_if_made, next_if_made}
use Rattle.office_core.proofs.register.Register.next.Goals as goal

pub returns-clause-next : goal.returns-clause-next
returns-clause-next c = next_if_made c.self.inside c.args.self.now c.next.result c.self.view_is c.self.invariant c.next.ensures.next

pub returns-clause-elsewhere : goal.returns-clause-elsewhere
returns-clause-elsewhere c = elsewhere_if_made c.self.inside c.args.self.now c.args.change.now c.next.result c.self.view_is c.self.invariant c.next.ensures.next c.next.ensures.change
