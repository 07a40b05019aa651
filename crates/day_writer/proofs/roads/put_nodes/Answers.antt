use Rattle.std.proofs.Common.{arith, []}
use Rattle.std.proofs.lemmas.Option.{get_or_from_slice_get}
use Rattle.day_writer.specs.Rows.{node_row}
use Rattle.day_writer.proofs.Writing.{row_more}
use Rattle.day_writer.proofs.roads.put_nodes.Goals as goal

pub nodes-preserved : goal.nodes-preserved
nodes-preserved c =
    let nodes = c.args.network.now.nodes in
    row_more node_row nodes c.nodes.i [] c.node-name.result c.args.page.now c.nodes.page c.put.new.self (omega (arith, c.nodes-i-end.ensures.count))
    (get_or_from_slice_get nodes c.nodes.i c.node-name.result [] c.node-name.ensures) c.nodes.invariant c.in_ok-put.ensures
