-- The records of a day, and its text.
use Rattle.std.specs.Prelude.{ℕ, List, [], ◌∷◌, ◌++◌, codes, map, flat_map}
use Rattle.std.specs.Fmt.{decimal}
use Rattle.road_graph.specs.Roads.{Roads, segment_at}
use Rattle.road_graph.specs.declared.segment.Segment.{Segment}
use Rattle.road_graph.specs.declared.segment.Span.{Span}
use Rattle.trip_analysis.specs.declared.base.Truck.{Truck}
use Rattle.day_text.specs.Days.{DayParts}
use Rattle.day_text.specs.Records.{Row}
use Rattle.day_writer.specs.Limits.{limit_rows}
use Rattle.day_writer.specs.Orders.{name_at, order_row}
use Rattle.day_writer.specs.Texts.{axles_text, row, text_of}

-- day,DAY
abbrev pub opening_row : List ℕ → Row
opening_row day = row (codes "day" ∷ day ∷ [])

-- node,NAME
abbrev pub node_row : List ℕ → Row
node_row name = row (codes "node" ∷ name ∷ [])

-- segment,NAME,FROM,TO,FEET
abbrev pub segment_row : Roads → Segment → Row
segment_row roads s = row (codes "segment" ∷ s.name ∷ name_at roads.nodes s.from ∷ name_at roads.nodes s.to ∷ decimal s.feet ∷ [])

-- span,NAME,SEGMENT,INCHES,RATING
abbrev pub span_row : Roads → Span → Row
span_row roads t =
    row (codes "span" ∷ t.name ∷ (segment_at roads.segments t.segment).name ∷ decimal t.inches ∷ decimal t.rating ∷ [])

-- truck,NAME,CARRIER,HEIGHT,WIDTH,LENGTH,AXLES
abbrev pub truck_row : Truck → Row
truck_row t =
    row (codes "truck" ∷ t.name ∷ t.carrier ∷ decimal t.load.height ∷ decimal t.load.width ∷ decimal t.load.length
    ∷ axles_text t.load.train ∷ [])

-- actor,NAME
abbrev pub actor_row : List ℕ → Row
actor_row name = row (codes "actor" ∷ name ∷ [])

-- end
abbrev pub end_row : Row
end_row = row (codes "end" ∷ [])

-- the records of the roads, each segment without its limits
abbrev pub road_rows_of : Roads → List Row
road_rows_of roads =
    map node_row roads.nodes ++ (map (segment_row roads) roads.segments ++ map (span_row roads) roads.spans)

-- the records of a day: the opening day, the roads, the trucks, the actors, the limits that are set, segment by segment, the commands
-- in their order, and the end
abbrev pub day_rows_of : DayParts → List Row
day_rows_of file =
    opening_row file.day ∷ (road_rows_of file.base.roads ++ (map truck_row file.base.fleet ++ (map actor_row file.actors
    ++ (flat_map limit_rows file.base.roads.segments ++ (map (order_row file.base file.actors) file.commands ++ end_row ∷ [])))))

-- the text of a day
unfoldable pub day_text_of : DayParts → List ℕ
day_text_of file = text_of (day_rows_of file)
