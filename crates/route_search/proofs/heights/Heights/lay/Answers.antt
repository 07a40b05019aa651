use Rattle.std.specs.List.{each_same}
use Rattle.route_search.proofs.Columns.{level_heights, level_rows, zeros}
use Rattle.route_search.proofs.heights.Heights.lay.Goals as goal

pub returns-in_ok-self-inside-clause-heights : goal.returns-in_ok-self-inside-clause-heights
returns-in_ok-self-inside-clause-heights c =
    let n = c.nodes-nodes.result in
    let rows = c.in_ok-self-inside.ensures.items_if_clones_equal (λ y h. each_same _ y h.whole) in
    rw rows (level_heights c.args.network.now.segments n _ (level_rows n _ (zeros 16)))
