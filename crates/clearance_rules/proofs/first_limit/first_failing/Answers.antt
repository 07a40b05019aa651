-- No limit fails exactly where the segment meets the load.
use Rattle.std.proofs.Common.{sym, ◌∙◌}
use Rattle.clearance_rules.proofs.Meeting.{none_meets, meets_none}
use Rattle.clearance_rules.proofs.first_limit.first_failing.Goals as goal

pub returns-clause-meets : goal.returns-clause-meets
returns-clause-meets g c = (
  λ none. none_meets c.args.network.now c.args.state.now c.args.load.now c.args.segment c.bounds.ensures.roads c.bounds.ensures.train (sym c.first_limit.ensures ∙ none),
  λ meets. c.first_limit.ensures ∙ meets_none c.args.network.now c.args.state.now c.args.load.now c.args.segment c.bounds.ensures.roads c.bounds.ensures.train meets,
)
