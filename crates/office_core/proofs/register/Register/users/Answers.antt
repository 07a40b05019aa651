use Rattle.office_core.proofs.Registers.{users_are}
use Rattle.office_core.proofs.register.Register.users.Goals as goal

pub returns-clause-each : goal.returns-clause-each
returns-clause-each c = users_are c.self.inside c.args.self.now c.args.segment c.using.result.now c.self.view_is c.self.invariant c.requires c.using.ensures.value
