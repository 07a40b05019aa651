-- What is found for an application in a state of the roads.
use Rattle.std.specs.Prelude.{◌≡◌, ℕ, ◌+◌, ◌-◌, ◌<◌, ◌≤◌, Bool, true, false, not, ◌&&◌, ◌==◌, List, [], ◌∷◌, filter, length, slice_get, Option, Some, None, if◌then◌else◌, All}
use Rattle.std.specs.List.{concat, list_any, range_with_len}
use Rattle.restriction_log.specs.States.{InForce}
use Rattle.road_graph.specs.Roads.{Roads, segment_at}
use Rattle.snapshot_store.specs.Stores.{Stored, state_now}
use Rattle.route_search.specs.declared.shortest.Shortest.{Shortest}
use Rattle.route_search.specs.declared.shortest.Shortest.TheVariants as shortest
use Rattle.route_search.specs.Founds.{IsShortest}
use Rattle.trip_analysis.specs.declared.application.Application.{Application}
use Rattle.trip_analysis.specs.declared.failing.Failing.{Failing}
use Rattle.trip_analysis.specs.declared.finding.What.{What}
use Rattle.trip_analysis.specs.declared.finding.What.TheVariants as what
use Rattle.trip_analysis.specs.Bases.{BaseLists}
use Rattle.trip_analysis.specs.Passing.{first_on, flags_of, is_passable, needs_none}

-- the first of these segments that may be passed
abbrev pub first_meeting : BaseLists → InForce → ℕ → List ℕ → Option ℕ
first_meeting base state truck [] = None
first_meeting base state truck (s ∷ rest) = if is_passable base state truck s then Some s else first_meeting base state truck rest

-- whether a number is among these
abbrev pub is_number_among : ℕ → List ℕ → Bool
is_number_among n numbers = list_any (λ k. k == n) numbers

-- each number is less than those behind it
pub record AreRising (numbers : List ℕ) : Type 0 where
  pub rising : (j k x y : ℕ) → j < k → slice_get numbers j ≡ Some x → slice_get numbers k ≡ Some y → x < y

-- whether a segment leaves a set of nodes: it begins in it and does not end in it
abbrev pub leaves : Roads → List ℕ → ℕ → Bool
leaves roads nodes s = is_number_among (segment_at roads.segments s).from nodes && not (is_number_among (segment_at roads.segments s).to nodes)

-- the segments from a number on that leave a set of nodes, rising
abbrev pub leaving_from : Roads → List ℕ → ℕ → List ℕ
leaving_from roads nodes start = filter (leaves roads nodes) (range_with_len start (length roads.segments - start))

-- s is the least segment from a number on that leaves a set of nodes. That it is below 16,384, the most segments of a
-- network, is said so that whoever asks can go on from the number after it
abbrev pub IsNextLeaving : Roads → List ℕ → ℕ → ℕ → Type 0
IsNextLeaving roads nodes start s =
    (start ≤ s) × (s < 16384) × (s < length roads.segments) × (leaving_from roads nodes start ≡ s ∷ leaving_from roads nodes (s + 1))

-- all segments that leave a set of nodes, rising
abbrev pub leaving : Roads → List ℕ → List ℕ
leaving roads nodes = leaving_from roads nodes 0

-- what a search found, as it is proposed
abbrev pub proposed_of : Shortest → What
proposed_of (shortest.Route segments feet) = what.Route (segments ∷ [])
proposed_of (shortest.Cut reached) = what.Cut reached
proposed_of (shortest.NoRoad reached) = what.Cut reached

-- what is found on asked routes
abbrev pub asked_finding : Option Failing → List (List ℕ) → What
asked_finding (Some failing) routes = what.Fails failing.segment
asked_finding None routes = what.Route routes

-- what a search over the flagged segments finds, as it is proposed
abbrev pub IsSearched : Roads → List Bool → ℕ → ℕ → What → Type 0
IsSearched roads flags from to w = (f : Shortest) × IsShortest roads flags from to f × (w ≡ proposed_of f)

-- what is found with asked routes or, without any, by a search over the segments that the truck may pass. The segments of
-- asked routes are tested in the order of the routes, and on each in its order
abbrev pub IsFoundBy : BaseLists → InForce → Application → Option (List (List ℕ)) → What → Type 0
IsFoundBy base state a (Some routes) w = w ≡ asked_finding (first_on base state a.truck (concat routes)) routes
IsFoundBy base state a None w = IsSearched base.roads (flags_of base state a.truck) a.from a.to w

-- what is found for an application in a state: nothing is needed where the truck is legal
pub record IsFinding (base : BaseLists) (state : InForce) (a : Application) (w : What) : Type 0 where
  pub legal : needs_none base a.truck ≡ true → w ≡ what.NotNeeded
  pub found : needs_none base a.truck ≡ false → IsFoundBy base state a a.asked w

-- only a search finds what an application needs: its truck is not legal, and no route is asked for
pub record IsToSearch (base : BaseLists) (a : Application) : Type 0 where
  pub needs : needs_none base a.truck ≡ false
  pub free : a.asked ≡ None

-- the same in what was in force with these postings
abbrev pub IsFoundAt : BaseLists → Stored → Application → What → Type 0
IsFoundAt base stored a w = IsFinding base (state_now stored) a w

-- the segments that are found are there, and the nodes of a cut rise
abbrev pub InRange : BaseLists → What → Type 0
InRange base what.NotNeeded = Unit {0}
InRange base (what.Route routes) = All (λ s. s < length base.roads.segments) (concat routes)
InRange base (what.Fails s) = s < length base.roads.segments
InRange base (what.Cut nodes) = AreRising nodes

-- what a finding says of the state in which it was found
abbrev pub HoldsIn : BaseLists → InForce → ℕ → What → Type 0
HoldsIn base state truck what.NotNeeded = needs_none base truck ≡ true
HoldsIn base state truck (what.Route routes) = first_on base state truck (concat routes) ≡ None
HoldsIn base state truck (what.Fails s) = is_passable base state truck s ≡ false
HoldsIn base state truck (what.Cut nodes) = first_meeting base state truck (leaving base.roads nodes) ≡ None
