-- What is found for a trip, over its own roads and between its own ends.
use Rattle.std.specs.Prelude.{List, Option, ℕ}
use Rattle.route_search.specs.declared.shortest.Shortest.{Shortest}
use Rattle.route_search.specs.declared.trip_ends.TripEnds.{TripEnds}
use Rattle.route_search.specs.Founds.{AreNearOver, ArePotentialsOver, IsRouteOrNone, IsShortest}
use Rattle.route_search.specs.Walks.{CanReach, IsRoute, flagged}

-- some passable walk leads from the start of the trip to its end
abbrev pub CanMake : TripEnds → Type 0
CanMake trip = CanReach trip.roads.network.now.segments (flagged trip.roads.flags.now) trip.from trip.to

-- for each node how far the end of the trip is
abbrev pub LeadToEnd : TripEnds → List (Option ℕ) → Type 0
LeadToEnd trip potentials = ArePotentialsOver trip.roads.network.now trip.roads.flags.now trip.to potentials

-- the same of the nodes alone that the start asks for
abbrev pub LeadFromStart : TripEnds → List (Option ℕ) → Type 0
LeadFromStart trip potentials = AreNearOver trip.roads.network.now trip.roads.flags.now trip.from trip.to potentials

-- the route of the trip, or why there is none
abbrev pub IsShortestFor : TripEnds → Shortest → Type 0
IsShortestFor trip found = IsShortest trip.roads.network.now trip.roads.flags.now trip.from trip.to found

-- the route of the trip, or nothing where no passable walk leads to its end
abbrev pub IsRouteOrNoneFor : TripEnds → Option Shortest → Type 0
IsRouteOrNoneFor trip found = IsRouteOrNone trip.roads.network.now trip.roads.flags.now trip.from trip.to found

-- the segments are the first, in dictionary order, of the shortest walks from the start of the trip to its end
abbrev pub IsRouteFor : TripEnds → List ℕ → Type 0
IsRouteFor trip route = IsRoute trip.roads.network.now.segments (flagged trip.roads.flags.now) trip.from trip.to route
