use Rattle.road_graph.proofs.Lookups.{kept-none}
use Rattle.road_graph.proofs.network.Network.new.Goals as goal

pub invariant_of-result : goal.invariant_of-result
invariant_of-result c =
    kept-none _ c.new.ensures.empty c.new-2.ensures.empty c.new-3.ensures.items c.new-4.ensures.empty c.new-5.ensures.items
    c.new-6.ensures.items c.new-7.ensures.items c.new-8.ensures.items
