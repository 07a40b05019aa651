-- What is kept of a network, and how it agrees with the network's lists.
use Rattle.std.specs.Prelude.{◌≡◌, length}
use Rattle.road_graph.specs.declared.network.Network.TheInside.{Inside}
use Rattle.road_graph.specs.Roads.{Roads, IsRoads, segment_names, span_names, outgoing_of, incoming_of, spans_of}
use Rattle.road_graph.specs.Lists.{lists_of, AreLists}

-- the lists of the network
abbrev pub roads_in : Inside → Roads
roads_in n = record { nodes = n.nodes; segments = n.segments.items; spans = n.spans.items }

-- the names are those of the segments and spans, and the list of each node and segment is the filter that it stands for
pub record IsNetworkKept (n : Inside) : Type 0 where
  pub roads : IsRoads (roads_in n)
  pub segment_names : n.segment_names ≡ segment_names n.segments.items
  pub span_names : n.span_names ≡ span_names n.spans.items
  pub outgoing : AreLists (lists_of n.outgoing.items) (length n.nodes) (outgoing_of n.segments.items)
  pub incoming : AreLists (lists_of n.incoming.items) (length n.nodes) (incoming_of n.segments.items)
  pub carried : AreLists (lists_of n.carried.items) (length n.segments.items) (spans_of n.spans.items)
