-- Which permits a state of the roads fails, and their recall.
use Rattle.std.specs.Prelude.{◌≡◌, ◌≢◌, ◌<◌, ◌∷◌, [], List, ℕ, Bool, true, false, length, if◌then◌else◌, ◌&&◌, not, filter, map, All, Option, Some, slice_get}
use Rattle.std.specs.List.{concat, list_any}
use Rattle.restriction_log.specs.States.{InForce}
use Rattle.permit_book.specs.declared.permit.Permit.{Permit}
use Rattle.permit_book.specs.declared.permit.Mark.{Mark}
use Rattle.permit_book.specs.declared.permit.Mark.TheVariants as mark
use Rattle.permit_book.specs.Permits.{in_force, is_issued, is_live, marked, permit_of}
use Rattle.trip_analysis.specs.Bases.{BaseLists}
use Rattle.trip_analysis.specs.Passing.{is_passable}

-- whether one of the segments of the permit's routes fails its truck
abbrev pub fails : BaseLists → InForce → Permit → Bool
fails base state p = list_any (λ s. not (is_passable base state p.trip.truck s)) (concat p.trip.routes)

-- whether a state recalls the permit: it is in force, and fails
abbrev pub is_recalled : BaseLists → InForce → List ℕ → Permit → Bool
is_recalled base state day p = in_force day p && fails base state p

-- the permit, if it is in force, meets its truck at all of its segments
abbrev pub MeetsIfInForce : BaseLists → InForce → List ℕ → Permit → Type 0
MeetsIfInForce base state day p = in_force day p ≡ true → fails base state p ≡ false

-- each permit in force meets its truck at all of its segments
abbrev pub InForceMeet : BaseLists → InForce → List ℕ → List Permit → Type 0
InForceMeet base state day permits = All (MeetsIfInForce base state day) permits

-- the permit meets its truck at each of its segments but this one
abbrev pub MeetsElsewhere : BaseLists → InForce → ℕ → Permit → Type 0
MeetsElsewhere base state segment p = All (λ s. s ≢ segment → is_passable base state p.trip.truck s ≡ true) (concat p.trip.routes)

abbrev pub MeetsElsewhereIfInForce : BaseLists → InForce → ℕ → List ℕ → Permit → Type 0
MeetsElsewhereIfInForce base state segment day p = in_force day p ≡ true → MeetsElsewhere base state segment p

-- each permit in force meets its truck at all of its segments but this one
abbrev pub InForceMeetElsewhere : BaseLists → InForce → ℕ → List ℕ → List Permit → Type 0
InForceMeetElsewhere base state segment day permits = All (MeetsElsewhereIfInForce base state segment day) permits

-- the numbers of the permits that a state recalls, rising
abbrev pub recalled_by : BaseLists → InForce → List ℕ → List Permit → List ℕ
recalled_by base state day permits = map (λ p. p.number) (filter (is_recalled base state day) permits)

-- a permit that a state recalls has the mark of its recall, and every other stays
abbrev pub recalled_if : BaseLists → InForce → List ℕ → ℕ → Permit → Permit
recalled_if base state day version p = if is_recalled base state day p then record p { mark = mark.Recalled version } else p

-- each permit that a state recalls has the mark of its recall, and every other stays
abbrev pub recalled_now : BaseLists → InForce → List ℕ → ℕ → List Permit → List Permit
recalled_now base state day version permits = map (recalled_if base state day version) permits

-- these numbers marked, one after another
abbrev pub marked_all : Mark → List Permit → List ℕ → List Permit
marked_all m permits [] = permits
marked_all m permits (n ∷ ns) = marked_all m (marked permits n m) ns

-- each of these numbers is that of a permit which is live still when those before it are marked
abbrev pub AreLive : Mark → List Permit → List ℕ → Type 0
AreLive m permits [] = Unit {0}
AreLive m permits (n ∷ ns) = (is_issued permits n ≡ true) × (is_live (permit_of permits n).mark ≡ true) × AreLive m (marked permits n m) ns

-- the permit of this number was issued, and is live
pub record IsLiveIn (permits : List Permit) (n : ℕ) : Type 0 where
  pub issued : is_issued permits n ≡ true
  pub live : is_live (permit_of permits n).mark ≡ true

-- the segments of the routes of the permit of a number
abbrev pub segments_of : List Permit → ℕ → List ℕ
segments_of permits n = concat (permit_of permits n).trip.routes

-- for each truck, if it was judged, whether it may pass the segment in a state
pub record AreVerdicts (base : BaseLists) (state : InForce) (segment : ℕ) (verdicts : List (Option Bool)) : Type 0 where
  pub many : length verdicts ≡ length base.fleet
  pub each : (t : ℕ) (b : Bool) → slice_get verdicts t ≡ Some (Some b) → b ≡ is_passable base state t segment

-- the truck and the segments of the permit are there
pub record IsRanged (base : BaseLists) (p : Permit) : Type 0 where
  pub truck : p.trip.truck < length base.fleet
  pub routes : All (λ s. s < length base.roads.segments) (concat p.trip.routes)
