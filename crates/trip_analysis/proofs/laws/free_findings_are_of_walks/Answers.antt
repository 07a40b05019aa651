use Rattle.trip_analysis.proofs.Meanings.{cuts_hold, routes_are_first}
use Rattle.trip_analysis.proofs.laws.free_findings_are_of_walks.Goals as goal

pub returns : goal.returns
returns c = record { route = routes_are_first; cut = cuts_hold }
