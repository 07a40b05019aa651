use Rattle.route_search.proofs.Cuts.{reached_closed, start_reached, stays_in}
use Rattle.route_search.proofs.laws.cuts_hold.Goals as goal

pub returns : goal.returns
returns c = record { keeps = stays_in; start = start_reached; closed = reached_closed }
