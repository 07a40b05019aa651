use Rattle.route_search.proofs.Columns.{column_heights}
use Rattle.route_search.proofs.heights.Heights.add.Goals as goal

pub returns-in_ok-lengths : goal.returns-in_ok-lengths
returns-in_ok-lengths c =
    let roads = c.in_ok-lay.ensures.roads in
    let old = rw (← c.self.view_is) at c.lay.ensures.heights in
    let column = rw c.as_slice-then-nodes-gt0.ensures.value at c.write.ensures.column in
    column_heights c.args.network.now c.self.inside.rows.items c.write.new.rows.items c.self.inside.columns c.farthest-node.result c.in_ok-lengths.lengths.items roads old column c.in_ok-lengths.ensures
