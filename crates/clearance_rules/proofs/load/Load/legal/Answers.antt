-- What is kept is what the test of legality says, and that is what it means.
use Rattle.std.proofs.Common.{ap, ◌∙◌}
use Rattle.clearance_rules.specs.Loads.{is_legal}
use Rattle.clearance_rules.proofs.Legal.{legal_means}
use Rattle.clearance_rules.proofs.load.Load.legal.Goals as goal

pub returns-clause-meaning : goal.returns-clause-meaning
returns-clause-meaning c = legal_means c.args.self.now c.self.inside.legal (c.self.invariant.legal_is ∙ ap is_legal c.self.view_is)
