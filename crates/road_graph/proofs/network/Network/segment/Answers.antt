use Rattle.road_graph.proofs.Lookups.{segment-read}
use Rattle.road_graph.proofs.network.Network.segment.Goals as goal

pub returns-clause-fits : goal.returns-clause-fits
returns-clause-fits c =
    segment-read c.self.inside c.self.invariant c.args.self.now c.self.view_is c.args.i c.requires c.index.result.now c.index.ensures
