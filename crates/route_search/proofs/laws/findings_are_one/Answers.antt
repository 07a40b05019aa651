use Rattle.route_search.proofs.Cuts.{in_range, shortest_in_range}
use Rattle.route_search.proofs.Uniqueness.{finding_unique, reached_unique, route_unique, shortest_unique}
use Rattle.route_search.proofs.laws.findings_are_one.Goals as goal

pub returns : goal.returns
returns c = record { route = route_unique; reached = reached_unique; finding = finding_unique; shortest = shortest_unique; range = in_range; shortest_range = shortest_in_range }
