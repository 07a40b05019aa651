-- The names that every day file has.
use Rattle.std.specs.Prelude.{◌≡◌, ℕ, true, List, Ok, All}
use Rattle.names.specs.Names.{is_name}
use Rattle.road_graph.specs.Roads.{AreDistinct, segment_names, span_names}
use Rattle.trip_analysis.specs.declared.base.Truck.{Truck}
use Rattle.day_text.specs.Days.{DayParts, day_of}
use Rattle.day_text.specs.Fleets.{truck_names}

-- a text is a name
abbrev pub IsName : List ℕ → Type 0
IsName text = is_name text ≡ true

-- the carrier of a truck has a name
abbrev pub HasCarrier : Truck → Type 0
HasCarrier t = IsName t.carrier

-- everything that has a name is named by one, and no two trucks and no two actors have the same
pub record IsNamed (file : DayParts) : Type 0 where
  pub nodes : All IsName file.base.roads.nodes
  pub segments : All IsName (segment_names file.base.roads.segments)
  pub spans : All IsName (span_names file.base.roads.spans)
  pub trucks : All IsName (truck_names file.base.fleet)
  pub carriers : All HasCarrier file.base.fleet
  pub actors : All IsName file.actors
  pub each_truck : AreDistinct (truck_names file.base.fleet)
  pub each_actor : AreDistinct file.actors

-- every day file is so named
abbrev pub DayFilesAreNamed : Type 0
DayFilesAreNamed = (bytes : List ℕ) (file : DayParts) → day_of bytes ≡ Ok file → IsNamed file
