use Rattle.route_search.specs.Walks.{flagged}
use Rattle.route_search.proofs.Nearest.{near_of_all}
use Rattle.route_search.proofs.finding.shortest_route_by.Goals as goal

pub route_shown-requires : goal.route_shown-requires
route_shown-requires c =
    let t = c.args.trip.now in
    rw c.as_slice.ensures (near_of_all t.roads.network.now (flagged t.roads.flags.now) t.from t.to c.args.potentials.now t.roads.in_order t.to_is_there c.requires)
