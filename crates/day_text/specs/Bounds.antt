-- The bounds that every day file keeps.
use Rattle.std.specs.Prelude.{◌≡◌, ◌≤◌, ℕ, true, List, Ok, All}
use Rattle.clearance_rules.specs.Loads.{is_load}
use Rattle.permit_days.specs.Days.{is_day_text}
use Rattle.restriction_log.specs.Changes.{takes}
use Rattle.road_graph.specs.Roads.{Roads, IsRoads}
use Rattle.trip_analysis.specs.Bases.{IsBase}
use Rattle.trip_analysis.specs.declared.base.Truck.{Truck}
use Rattle.office_words.specs.declared.entry.Command.{Command}
use Rattle.office_words.specs.declared.entry.Command.TheVariants.{Apply, Day, Post, Show, Surrender}
use Rattle.day_text.specs.Days.{DayParts, day_of}

-- a day is one of the calendar, a posted change is one that the roads take, and a number has at most nine digits
abbrev pub IsCommandWithin : Roads → Command → Type 0
IsCommandWithin roads (Apply a) = (is_day_text a.first ≡ true) × (is_day_text a.last ≡ true)
IsCommandWithin roads (Post change) = takes roads change ≡ true
IsCommandWithin roads (Day day) = is_day_text day ≡ true
IsCommandWithin roads (Surrender number) = number ≤ 999999999
IsCommandWithin roads (Show number) = number ≤ 999999999

-- height, width and length of a truck are in range
abbrev pub IsSized : Truck → Type 0
IsSized t = is_load t.load.height t.load.width t.load.length ≡ true

-- the roads and the trucks are within their bounds, the opening day is one of the calendar, and each command is within bounds
pub record IsBounded (file : DayParts) : Type 0 where
  pub roads : IsRoads file.base.roads
  pub base : IsBase file.base
  pub sizes : All IsSized file.base.fleet
  pub day : is_day_text file.day ≡ true
  pub commands : All (λ o. IsCommandWithin file.base.roads o.command) file.commands

-- every day file is within these bounds
abbrev pub DayFilesAreBounded : Type 0
DayFilesAreBounded = (bytes : List ℕ) (file : DayParts) → day_of bytes ≡ Ok file → IsBounded file
