use Rattle.axle_train.proofs.Places.{front_fits}
use Rattle.axle_train.proofs.train.Train.axle.Goals as goal

pub returns-clause-near : goal.returns-clause-near
returns-clause-near c = (front_fits c.self.inside.axles c.self.inside.len c.args.i c.self.invariant.1.each c.self.invariant.0 (rw c.self.view_is c.requires)).0

pub returns-clause-heavy : goal.returns-clause-heavy
returns-clause-heavy c = (front_fits c.self.inside.axles c.self.inside.len c.args.i c.self.invariant.1.each c.self.invariant.0 (rw c.self.view_is c.requires)).1

pub returns-clause-light : goal.returns-clause-light
returns-clause-light c = (front_fits c.self.inside.axles c.self.inside.len c.args.i c.self.invariant.1.each c.self.invariant.0 (rw c.self.view_is c.requires)).2
