use Rattle.route_search.specs.Walks.{flagged}
use Rattle.route_search.proofs.Nearest.{near_of_all}
use Rattle.route_search.proofs.Outcomes.{route_shown}
use Rattle.route_search.proofs.finding.search.Goals as goal

pub route_shown-requires : goal.route_shown-requires
route_shown-requires c =
    rw c.deref.ensures.value (near_of_all c.args.network.now (flagged c.args.passable.now) c.args.from c.args.to c.in_ok-list.list.items c.lists_are_in_order.ensures c.requires.to c.in_ok-list.ensures)

pub returns-in-Route : goal.returns-in-Route
returns-in-Route c =
    let route = rw c.in-Route.is at c.in_ok-found.ensures in
    rw c.of.ensures (route_shown c.args.network.now c.args.passable.now c.args.from c.args.to c.in-Route.segments c.in-Route.length c.in_ok-list.list.items c.requires.from route c.in_ok-list.ensures)
