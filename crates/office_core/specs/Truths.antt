-- What is so where an application is answered, in words of the entries before the answer.
use Rattle.std.specs.Prelude.{◌≡◌, ◌↔◌, ◌⊎◌, ℕ, ◌+◌, ◌<◌, ◌≤◌, true, false, ◌∷◌, ◌++◌, length, All, Option, Some, None}
use Rattle.std.specs.List.{concat}
use Rattle.restriction_log.specs.States.{InForce}
use Rattle.clearance_rules.specs.Loads.{IsLegalLoad}
use Rattle.clearance_rules.specs.declared.limit.Limit.{Limit}
use Rattle.clearance_rules.specs.Failing.{segment_of}
use Rattle.clearance_rules.specs.Order.{FailsFirst}
use Rattle.permit_days.specs.Days.{is_before}
use Rattle.trip_routes.specs.Routes.{AreRoutes}
use Rattle.trip_analysis.specs.Applications.{Sound}
use Rattle.trip_analysis.specs.Bases.{BaseLists, truck_of}
use Rattle.trip_analysis.specs.declared.application.Application.{Application}
use Rattle.trip_analysis.specs.declared.finding.Proposal.{Proposal}
use Rattle.trip_analysis.specs.declared.finding.What.{What}
use Rattle.trip_analysis.specs.declared.finding.What.TheVariants as what
use Rattle.trip_analysis.specs.Findings.{is_number_among}
use Rattle.office_words.specs.declared.entry.Call.{Call}
use Rattle.office_words.specs.declared.entry.Call.TheVariants as call
use Rattle.office_words.specs.declared.entry.Cause.{Cause}
use Rattle.office_words.specs.declared.entry.Cause.TheVariants as cause
use Rattle.office_core.specs.Clearances.{MeetsTruck}
use Rattle.office_core.specs.Passages.{ArePassableWalks, IsPassableWalk, IsRoadWalk, IsShortestAlone, LeadsOut, Reaches}
use Rattle.office_core.specs.Happened.{Day, History, Numbers, Route, Routes, application_in, day_after, issued_in, seen_by, state_left_by, state_at_version, state_seen, version_after}

-- a call asks for a trip that can be asked for: its truck and its nodes are there, each asked route is a walk
-- of it, its days are in order, and with two asked routes or more they are within a year
pub record AsksFor (base : BaseLists) (c : Call) (trip : Application) : Type 0 where
  pub is : application_in c ≡ Some trip
  pub sound : Sound base trip

-- routes were found for a trip: the asked ones, each segment of which met the truck, or, where none was
-- asked for, the first of the shortest passable walks alone
abbrev pub WasFound : BaseLists → InForce → Application → Routes → Option Routes → Type 0
WasFound base before a routes (Some asked) = (routes ≡ asked) × All (MeetsTruck base before a.truck) (concat asked)
WasFound base before a routes None = IsShortestAlone base before a.truck a.from a.to routes

-- a permit has the next number and names the current version. It has one to eight routes. Each of them is a
-- walk of the trip, each segment of which meets the truck in the state of that version. They were found for the
-- version seen. The truck is not legal without a permit, and the trip does not begin before the day
pub record TruePermit (base : BaseLists) (day : Day) (front : History) (c : Call) (n v : ℕ) (routes : Routes)
    : Type 0 where
  pub trip : Application
  pub asked : AsksFor base c trip
  pub number : n ≡ issued_in front + 1
  pub version : v ≡ version_after front
  pub few : AreRoutes routes
  pub walks : ArePassableWalks base (state_left_by base front) trip.truck trip.from trip.to routes
  pub seen : seen_by front c ≤ v
  pub found : WasFound base (state_seen base front c) trip routes trip.asked
  pub needed : IsLegalLoad (truck_of base trip.truck).load → ⊥
  pub on_time : is_before trip.first (day_after day front) ≡ false

-- the limit is one of a segment that is there, and the first that fails the truck on it: it fails, with these
-- two sides, and none that comes before it in the order of limits does
pub record IsFirstLimit (base : BaseLists) (state : InForce) (truck : ℕ) (l : Limit) : Type 0 where
  pub there : segment_of l < length base.roads.segments
  pub first : FailsFirst base.roads state (truck_of base truck).load (segment_of l) l

-- the segment is the first of these, one after another, that failed the truck
pub record FailedFirst (base : BaseLists) (state : InForce) (truck s : ℕ) (segments : Numbers) : Type 0
  where
    pub front : Numbers
    pub back : Numbers
    pub parts : segments ≡ front ++ s ∷ back
    pub before : All (MeetsTruck base state truck) front
    pub failed : MeetsTruck base state truck s → ⊥

-- no passable walk of the trip is there, though some walk is. The segment has the least number of those that
-- led out of all that the truck reached from its start before, and each of these fails the truck now
pub record IsShutIn (base : BaseLists) (before now : InForce) (a : Application) (s : ℕ) : Type 0 where
  pub road : (route : Route) × IsRoadWalk base a.from a.to route
  pub none : (route : Route) → IsPassableWalk base now a.truck a.from a.to route → ⊥
  pub out : LeadsOut base before a.truck a.from s
  pub least : (k : ℕ) → LeadsOut base before a.truck a.from k → s ≤ k
  pub all_fail : (k : ℕ) → LeadsOut base before a.truck a.from k → MeetsTruck base now a.truck k → ⊥

-- a failing segment stands in the way of a trip: in the order of the asked routes, and on each in its order,
-- it was the first that failed when the answer was found; where none is asked for, the truck is shut in
abbrev pub StandsInTheWay : BaseLists → InForce → InForce → Application → ℕ → Option Routes → Type 0
StandsInTheWay base before now a s (Some routes) = FailedFirst base before a.truck s (concat routes)
StandsInTheWay base before now a s None = IsShutIn base before now a s

-- a refusal names the current version, and the first failing limit then of a segment that stands in the way.
-- The truck is not legal without a permit, and the trip does not begin before the day
pub record TrueRefusal (base : BaseLists) (day : Day) (front : History) (c : Call) (v : ℕ) (l : Limit) : Type 0
  where
    pub trip : Application
    pub asked : AsksFor base c trip
    pub version : v ≡ version_after front
    pub limit : IsFirstLimit base (state_left_by base front) trip.truck l
    pub seen : seen_by front c ≤ v
    pub stands : StandsInTheWay base (state_seen base front c) (state_left_by base front) trip (segment_of l)
        trip.asked
    pub needed : IsLegalLoad (truck_of base trip.truck).load → ⊥
    pub on_time : is_before trip.first (day_after day front) ≡ false

-- where it is said that there is no road, no walk of the trip is there, whatever is posted
pub record TrueNoRoad (base : BaseLists) (c : Call) : Type 0 where
  pub trip : Application
  pub asked : AsksFor base c trip
  pub none : (route : Route) → IsRoadWalk base trip.from trip.to route → ⊥

-- the routes that were proposed were those of the trip then, and each segment of them met the truck; now this
-- is the first failing limit of the first segment that fails, in the order of the routes and on each in its order
pub record FailsSince (base : BaseLists) (before now : InForce) (a : Application) (w : What) (l : Limit)
    : Type 0 where
  pub routes : Routes
  pub proposed : w ≡ what.Route routes
  pub found : WasFound base before a routes a.asked
  pub met : MeetsTruck base before a.truck (segment_of l)
  pub fails : FailedFirst base now a.truck (segment_of l) (concat routes)
  pub limit : IsFirstLimit base now a.truck l

-- the segment that was proposed to fail was the first that did, in the order of the asked routes and on each in
-- its order
pub record StoodOnRoutes (base : BaseLists) (before : InForce) (a : Application) (w : What) (s : ℕ) : Type 0
  where
    pub proposed : w ≡ what.Fails s
    pub routes : Routes
    pub asked : a.asked ≡ Some routes
    pub failed : FailedFirst base before a.truck s (concat routes)

-- no route was asked for, and the nodes of the cut that was proposed were all that the truck reached. The
-- segment has the least number of those that led out of them and meet the truck now
pub record LedOutOfCut (base : BaseLists) (before now : InForce) (a : Application) (w : What) (s : ℕ) : Type 0
  where
    pub nodes : Numbers
    pub proposed : w ≡ what.Cut nodes
    pub unasked : a.asked ≡ None
    pub cut : (node : ℕ) → (is_number_among node nodes ≡ true) ↔ Reaches base before a.truck a.from node
    pub out : LeadsOut base before a.truck a.from s
    pub least : (k : ℕ) → LeadsOut base before a.truck a.from k → MeetsTruck base now a.truck k → s ≤ k

-- a segment that stood in the way of the trip failed the truck then, and meets it now
pub record MeetsSince (base : BaseLists) (before now : InForce) (a : Application) (w : What) (s : ℕ) : Type 0
  where
    pub there : s < length base.roads.segments
    pub stood : StoodOnRoutes base before a w s ⊎ LedOutOfCut base before now a w s
    pub failed : MeetsTruck base before a.truck s → ⊥
    pub meets : MeetsTruck base now a.truck s

-- what was proposed for a trip does not hold any more
abbrev pub HasChanged : BaseLists → InForce → InForce → Application → What → Cause → Type 0
HasChanged base before now a w (cause.NowFails l) = FailsSince base before now a w l
HasChanged base before now a w (cause.NowMeets s) = MeetsSince base before now a w s

-- only a proposal is out of date. It was found for an earlier version than the current one, which is named;
-- and the cause that is named is one of its routes, or of what stood in its way, and made it false since
pub record TrueOutdated (base : BaseLists) (front : History) (c : Call) (v : ℕ) (why : Cause) : Type 0 where
  pub trip : Application
  pub proposal : Proposal
  pub asked : c ≡ call.Submit trip proposal
  pub sound : Sound base trip
  pub version : v ≡ version_after front
  pub later : proposal.seen < v
  pub changed : HasChanged base (state_at_version base front proposal.seen) (state_left_by base front) trip
      proposal.what why

-- a trip is late where it begins before the day, which is named
pub record TrueLate (base : BaseLists) (day : Day) (front : History) (c : Call) (named : Day) : Type 0 where
  pub trip : Application
  pub asked : AsksFor base c trip
  pub today : named ≡ day_after day front
  pub begins : is_before trip.first named ≡ true

-- a truck needs no permit where it is legal
pub record TrueNotNeeded (base : BaseLists) (c : Call) : Type 0 where
  pub trip : Application
  pub asked : AsksFor base c trip
  pub legal : IsLegalLoad (truck_of base trip.truck).load
