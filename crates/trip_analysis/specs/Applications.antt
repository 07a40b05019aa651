-- Applications: which are sound, and why one is refused.
use Rattle.std.specs.Prelude.{◌≡◌, ◌≢◌, ℕ, ◌+◌, ◌<◌, ◌≤◌, Bool, true, false, ◌==◌, ◌&&◌, nat_le, nat_lt, List, [], ◌∷◌, length, Option, Some, None, if◌then◌else◌, All}
use Rattle.std.specs.List.{concat}
use Rattle.permit_days.specs.Days.{days_between, is_before}
use Rattle.road_graph.specs.declared.segment.Segment.{Segment}
use Rattle.road_graph.specs.Roads.{Roads, segment_at}
use Rattle.route_search.specs.Walks.{IsWalk, every}
use Rattle.trip_routes.specs.Routes.{AreRoutes}
use Rattle.trip_analysis.specs.declared.application.Application.{Application}
use Rattle.trip_analysis.specs.declared.application_refusal.ApplicationRefusal.{ApplicationRefusal}
use Rattle.trip_analysis.specs.declared.application_refusal.ApplicationRefusal.TheVariants.{SamePlace, BrokenRoute, DayOrder, AnnualDays}
use Rattle.trip_analysis.specs.Bases.{BaseLists}

-- the application of six fields; a day is its text, and an asked route is the list of its segments
abbrev pub application_of : ℕ → ℕ → ℕ → Option (List (List ℕ)) → List ℕ → List ℕ → Application
application_of truck from to asked first last =
    record { truck = truck; from = from; to = to; asked = asked; first = first; last = last }

-- the segments of the asked routes are there
abbrev pub AreAskedThere : Roads → Option (List (List ℕ)) → Type 0
AreAskedThere roads None = Unit {0}
AreAskedThere roads (Some routes) = All (λ s. s < length roads.segments) (concat routes)

-- the nodes and the segments of the asked routes are there
pub record AreThere (roads : Roads) (from to : ℕ) (asked : Option (List (List ℕ))) : Type 0 where
  pub begins : from < length roads.nodes
  pub ends : to < length roads.nodes
  pub along : AreAskedThere roads asked

-- each of the asked routes, if there are any, is a walk over the network, whatever is posted on it
abbrev pub IsAskedWalk : Roads → ℕ → ℕ → Option (List (List ℕ)) → Type 0
IsAskedWalk roads from to None = Unit {0}
IsAskedWalk roads from to (Some routes) = All (IsWalk roads.segments every from to) routes

-- no routes are asked for, or one to eight are
abbrev pub AreAskedRoutes : Option (List (List ℕ)) → Type 0
AreAskedRoutes None = Unit {0}
AreAskedRoutes (Some routes) = AreRoutes routes

-- an application that asks for two routes or more is annual
abbrev pub is_annual : Option (List (List ℕ)) → Bool
is_annual None = false
is_annual (Some routes) = nat_le 2 (length routes)

-- the application can be asked of this base: its truck and its nodes are there, it goes somewhere, it asks for no routes or for
-- one to eight, each of them is a walk between its nodes, and its last day is not before its first or, where it is annual, more
-- than 365 days after it
pub record Sound (base : BaseLists) (a : Application) : Type 0 where
  pub truck : a.truck < length base.fleet
  pub from : a.from < length base.roads.nodes
  pub to : a.to < length base.roads.nodes
  pub apart : a.from ≢ a.to
  pub routes : AreAskedRoutes a.asked
  pub asked : IsAskedWalk base.roads a.from a.to a.asked
  pub days : is_before a.last a.first ≡ false
  pub year : is_annual a.asked ≡ true → days_between a.first a.last ≤ 365

-- where a list of segments, of which the first stands at place `at`, breaks off as a walk between two nodes: the least place
-- whose segment does not begin where the last one ended, or the place behind the last where it does not end at `to`
abbrev pub break_from : List Segment → ℕ → ℕ → ℕ → List ℕ → Option ℕ
break_from segments at from to [] = if from == to then None else Some at
break_from segments at from to (i ∷ path) =
    if (segment_at segments i).from == from then break_from segments (at + 1) (segment_at segments i).to to path else Some at

-- the refusal of a route that has the number `route` and breaks off, or else this one
abbrev pub break_or : ℕ → Option ℕ → Option ApplicationRefusal → Option ApplicationRefusal
break_or route (Some at) rest = Some (BrokenRoute route at)
break_or route None rest = rest

-- the refusal of the first of these routes that breaks off, where they are counted from `route` on
abbrev pub first_break : List Segment → ℕ → ℕ → ℕ → List (List ℕ) → Option ApplicationRefusal
first_break segments route from to [] = None
first_break segments route from to (path ∷ rest) = break_or route (break_from segments 0 from to path) (first_break segments (route + 1) from to rest)

-- the refusal of the asked routes, if there are any and one of them breaks off
abbrev pub asked_refusal : List Segment → ℕ → ℕ → Option (List (List ℕ)) → Option ApplicationRefusal
asked_refusal segments from to None = None
asked_refusal segments from to (Some routes) = first_break segments 0 from to routes

-- the refusal of so many days between the first and the last one, where the application is annual or is not
abbrev pub year_refusal : Bool → ℕ → Option ApplicationRefusal
year_refusal annual days = if annual && nat_lt 365 days then Some (AnnualDays days) else None

-- the refusal of the days
abbrev pub days_refusal : Bool → List ℕ → List ℕ → Option ApplicationRefusal
days_refusal annual first last = if is_before last first then Some DayOrder else year_refusal annual (days_between first last)

-- the first of two causes
abbrev pub cause_or : Option ApplicationRefusal → Option ApplicationRefusal → Option ApplicationRefusal
cause_or (Some refusal) later = Some refusal
cause_or None later = later

-- the application is sound for every base of these roads that has its truck
abbrev pub IsSoundOn : Roads → ℕ → Application → Type 0
IsSoundOn roads truck a = (base : BaseLists) → base.roads ≡ roads → truck < length base.fleet → Sound base a

-- the refusal is the first cause that applies
abbrev pub IsApplicationCause : Option ApplicationRefusal → ApplicationRefusal → Type 0
IsApplicationCause cause refusal = cause ≡ Some refusal

-- the first cause, in this order, for which an application is refused
abbrev pub application_refusal : Roads → ℕ → ℕ → Option (List (List ℕ)) → List ℕ → List ℕ → Option ApplicationRefusal
application_refusal roads from to asked first last =
    if from == to then Some SamePlace else cause_or (asked_refusal roads.segments from to asked) (days_refusal (is_annual asked) first last)
