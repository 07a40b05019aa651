-- What a day file is written of: roads with what is in force on them, some of the trucks, the day, the actors and the commands.
use Rattle.std.specs.Prelude.{◌<◌, ℕ, List, All, length, map}
use Rattle.std.specs.List.{enumerate_from}
use Rattle.road_graph.specs.Roads.{Roads}
use Rattle.road_graph.specs.declared.segment.Segment.{Segment}
use Rattle.road_graph.specs.declared.segment.Span.{Span}
use Rattle.restriction_log.specs.States.{InForce, AreOf, rating_at, values_at}
use Rattle.trip_analysis.specs.Bases.{BaseLists, truck_of}
use Rattle.day_text.specs.Days.{DayParts}
use Rattle.day_writer.specs.declared.write.Sheet.{Sheet}

-- the segment of a number with the limits in force on it as its own
abbrev pub segment_in_force : InForce → ℕ × Segment → Segment
segment_in_force state x = record x.1 { base = values_at state.values x.0 }

-- the span of a number with the rating in force as its own
abbrev pub span_in_force : InForce → ℕ × Span → Span
span_in_force state x = record x.1 { rating = rating_at state.ratings x.0 }

-- the roads with what is in force on them as their own: nothing need be posted on them
abbrev pub roads_in_force : Roads → InForce → Roads
roads_in_force roads state = record roads {
  segments = map (segment_in_force state) (enumerate_from 0 roads.segments);
  spans = map (span_in_force state) (enumerate_from 0 roads.spans);
}

-- these roads as they are in force, and the trucks of these numbers
abbrev pub base_in_force : BaseLists → InForce → List ℕ → BaseLists
base_in_force base state trucks = record { roads = roads_in_force base.roads state; fleet = map (truck_of base) trucks }

-- the day of a sheet
abbrev pub parts_of_sheet : Sheet → DayParts
parts_of_sheet s = record {
  base = base_in_force s.base.now s.state.now s.trucks.now;
  day = s.day;
  actors = s.actors.now;
  commands = s.commands.now;
}

-- the trucks that are written are there
abbrev pub AreTrucksThere : Sheet → Type 0
AreTrucksThere s = All (λ t. t < length s.base.now.fleet) s.trucks.now

-- what is in force is of the roads, and the trucks are there
pub record IsSheet (s : Sheet) : Type 0 where
  pub of_roads : AreOf s.base.now.roads s.state.now
  pub trucks : AreTrucksThere s
