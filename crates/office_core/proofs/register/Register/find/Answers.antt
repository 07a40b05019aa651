use Rattle.office_core.proofs.Registers.{held_if_found, within_if_found}
use Rattle.office_core.proofs.register.Register.find.Goals as goal

pub returns-clause-within : goal.returns-clause-within
returns-clause-within g c =
    within_if_found c.self.inside c.args.self.now c.deref.result.now c.in_ok-snapshot.snapshot c.args.application.now c.analyse.result c.self.view_is c.self.invariant c.deref.ensures c.requires c.analyse.ensures.found

pub returns-clause-held : goal.returns-clause-held
returns-clause-held g c =
    held_if_found c.self.inside c.args.self.now c.deref.result.now c.in_ok-snapshot.snapshot c.args.application.now c.analyse.result c.self.view_is c.self.invariant c.deref.ensures c.in_ok-snapshot.ensures c.requires c.analyse.ensures.seen c.analyse.ensures.found
