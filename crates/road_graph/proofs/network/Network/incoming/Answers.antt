use Rattle.std.proofs.Common.{◌∙◌}
use Rattle.road_graph.proofs.Lookups.{incoming-read, incoming-means}
use Rattle.road_graph.proofs.network.Network.incoming.Goals as goal

pub returns-clause-value : goal.returns-clause-value
returns-clause-value c =
    c.as_slice.ensures.value ∙ incoming-read c.self.inside c.self.invariant c.args.self.now c.self.view_is c.args.node c.requires c.index.result.now c.index.ensures

pub returns-clause-meaning : goal.returns-clause-meaning
returns-clause-meaning c = incoming-means c.args.self.now.segments c.args.node c.as_slice.result.now (returns-clause-value c)
