use Rattle.std.proofs.Common.{◌∙◌}
use Rattle.road_graph.proofs.Lookups.{spans-read, spans-mean}
use Rattle.road_graph.proofs.network.Network.spans_of.Goals as goal

pub returns-clause-value : goal.returns-clause-value
returns-clause-value c =
    c.as_slice.ensures.value ∙ spans-read c.self.inside c.self.invariant c.args.self.now c.self.view_is c.args.segment c.requires c.index.result.now c.index.ensures

pub returns-clause-meaning : goal.returns-clause-meaning
returns-clause-meaning c = spans-mean c.args.self.now.spans c.args.segment c.as_slice.result.now (returns-clause-value c)
