use Rattle.std.proofs.Common.{◌≡◌, ◌++◌, map, take}
use Rattle.day_writer.specs.Rows.{node_row}
use Rattle.day_writer.specs.Texts.{text_of}
use Rattle.day_writer.proofs.roads.put_nodes.Given as goal

abbrev pub invariant-nodes : goal.invariant-nodes
invariant-nodes l = l.page ≡ l.fn.page ++ text_of (map node_row (take l.i l.network.nodes))
