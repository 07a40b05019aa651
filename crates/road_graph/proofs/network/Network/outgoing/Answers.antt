use Rattle.std.proofs.Common.{◌∙◌}
use Rattle.road_graph.proofs.Lookups.{outgoing-read, outgoing-means}
use Rattle.road_graph.proofs.network.Network.outgoing.Goals as goal

pub returns-clause-value : goal.returns-clause-value
returns-clause-value c =
    c.as_slice.ensures.value ∙ outgoing-read c.self.inside c.self.invariant c.args.self.now c.self.view_is c.args.node c.requires c.index.result.now c.index.ensures

pub returns-clause-meaning : goal.returns-clause-meaning
returns-clause-meaning c = outgoing-means c.args.self.now.segments c.args.node c.as_slice.result.now (returns-clause-value c)
