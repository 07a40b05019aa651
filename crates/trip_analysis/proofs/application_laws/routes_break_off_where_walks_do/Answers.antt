use Rattle.trip_analysis.proofs.Breaks.{breaks_are_first, walks_are_unbroken}
use Rattle.trip_analysis.proofs.AskedRoutes.{first_breaks_are_first, routes_are_unbroken}
use Rattle.trip_analysis.proofs.application_laws.routes_break_off_where_walks_do.Goals as goal

pub returns : goal.returns
returns c = record { walks = walks_are_unbroken; breaks = breaks_are_first; routes = routes_are_unbroken; first = first_breaks_are_first }
