use Rattle.road_graph.proofs.Lookups.{span-read}
use Rattle.road_graph.proofs.network.Network.span.Goals as goal

pub returns-clause-fits : goal.returns-clause-fits
returns-clause-fits c =
    span-read c.self.inside c.self.invariant c.args.self.now c.self.view_is c.args.i c.requires c.index.result.now c.index.ensures
