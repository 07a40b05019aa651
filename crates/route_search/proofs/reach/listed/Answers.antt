use Rattle.std.proofs.Common.{◌≡◌, arith, length}
use Rattle.route_search.specs.Walks.{flagged}
use Rattle.route_search.proofs.Listed.{listed_all}
use Rattle.route_search.proofs.reach.listed.Goals as goal

pub returns : goal.returns
returns c =
    let w = c.args.walks.now in
    let end : c.loop-i.i ≡ length w.roads.network.now.nodes = omega (arith, c.loop-i-test.false, c.loop-i.auto.i-end, c.nodes-i-end.ensures.count) in
    rw (c.loop-i.invariant, end) (listed_all w.roads.network.now (flagged w.roads.flags.now) w.root c.args.marked.now c.requires)
