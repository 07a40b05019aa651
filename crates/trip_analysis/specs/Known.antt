-- What is known of the trucks of a base in a state of its roads.
use Rattle.std.specs.Prelude.{◌≡◌, ◌<◌, ℕ, Bool, List, Option, None, IfSome, IsSomeAnd, MatchOption, length, slice_index_or, slice_set}
use Rattle.road_graph.specs.Roads.{Roads}
use Rattle.route_search.specs.Founds.{ArePotentialsOver}
use Rattle.route_search.specs.Heights.{AreHeights}
use Rattle.route_search.specs.Regions.{IsRegion}
use Rattle.route_search.specs.declared.region.Region.{Region}
use Rattle.restriction_log.specs.States.{InForce}
use Rattle.trip_analysis.specs.declared.kept.Kept.{Kept}
use Rattle.trip_analysis.specs.declared.known.Known.{Known}
use Rattle.trip_analysis.specs.declared.kept.Settled.{Settled}
use Rattle.trip_analysis.specs.declared.analyst.Analyst.{Analyst}
use Rattle.trip_analysis.specs.Bases.{BaseLists}
use Rattle.trip_analysis.specs.Passing.{flags_of, is_passable}

-- for each node how far it is from there to a goal, which is there, over the segments that may be passed
pub record IsSettled (roads : Roads) (passable : List Bool) (settled : Settled) : Type 0 where
  pub there : settled.goal < length roads.nodes
  pub least : ArePotentialsOver roads passable settled.goal settled.potentials

-- a region over the segments that may be passed: some node is its root
abbrev pub IsRegionOver : Roads → List Bool → Region → Type 0
IsRegionOver roads passable region = (root : ℕ) × IsRegion roads passable root region

-- what is kept of searches, if anything is, is over the segments that may be passed
pub record IsKeptOver (roads : Roads) (passable : List Bool) (kept : Kept) : Type 0 where
  pub settled : IfSome kept.settled (IsSettled roads passable)
  pub region : IfSome kept.region (IsRegionOver roads passable)

-- what is known of a truck is of the roads, whatever is posted: it says of each segment whether the truck may pass it, and
-- what is kept beside this is over the segments that it may pass
pub record IsOfRoads (roads : Roads) (known : Known) : Type 0 where
  pub many : length known.passable.items ≡ length roads.segments
  pub kept : IsKeptOver roads known.passable.items known.kept

-- what is known of a truck in a state: which segments it may pass there, and what is kept beside this
pub record IsKnown (base : BaseLists) (state : InForce) (truck : ℕ) (known : Known) : Type 0 where
  pub passable : known.passable.items ≡ flags_of base state truck
  pub of_roads : IsOfRoads base.roads known

-- a segment is judged anew for a truck of which something is known: whether the truck may pass it is as in the state, and the
-- others stay
pub record IsJudgedBy (base : BaseLists) (state : InForce) (segment truck : ℕ) (old new : Known) : Type 0 where
  pub of_roads : IsOfRoads base.roads new
  pub passable : new.passable.items ≡ slice_set old.passable.items segment (is_passable base state truck segment)

-- the same for any truck: where nothing is known of it, nothing is known afterwards
abbrev pub IsJudged : BaseLists → InForce → ℕ → ℕ → Option Known → Option Known → Type 0
IsJudged base state segment truck old new = MatchOption old (new ≡ None) (λ was. IsSomeAnd new (IsJudgedBy base state segment truck was))

-- what is known of each truck of the fleet, in order, if anything is, is of the roads
pub record AreOfFleet (base : BaseLists) (a : Analyst) : Type 0 where
  pub many : length a.known.items ≡ length base.fleet
  pub each : (truck : ℕ) (d : Option Known) → truck < length base.fleet → IfSome (slice_index_or a.known.items truck d) (IsOfRoads base.roads)

-- the segment is judged anew for each truck of the fleet, and the heights are as before
pub record AreJudged (base : BaseLists) (state : InForce) (segment : ℕ) (old new : Analyst) : Type 0 where
  pub heights : new.tables.heights ≡ old.tables.heights
  pub many : length new.known.items ≡ length base.fleet
  pub each : (truck : ℕ) (d : Option Known) → truck < length base.fleet → IsJudged base state segment truck (slice_index_or old.known.items truck d) (slice_index_or new.known.items truck d)

-- what is known of each truck of the fleet, in order, if anything is, is so in the state, and the heights are those of the roads
pub record AreKnown (base : BaseLists) (state : InForce) (a : Analyst) : Type 0 where
  pub heights : AreHeights base.roads.segments a.tables.heights
  pub many : length a.known.items ≡ length base.fleet
  pub each : (truck : ℕ) (d : Option Known) → truck < length base.fleet → IfSome (slice_index_or a.known.items truck d) (IsKnown base state truck)
