-- What a day file says, judged over the whole list of its records.
use Rattle.std.specs.Prelude.{ℕ, List, [], ◌∷◌, Option, Some, None, Result, Ok, Err}
use Rattle.road_graph.specs.Roads.{Roads, no_roads}
use Rattle.trip_analysis.specs.Bases.{BaseLists}
use Rattle.trip_analysis.specs.declared.base.Truck.{Truck}
use Rattle.day_text.specs.Causes.{◌>>=◌, or_bad}
use Rattle.day_text.specs.Fields.{field_of}
use Rattle.day_text.specs.Forms.{Day as day_form, said_in}
use Rattle.day_text.specs.Records.{Row, judged, rows_of}
use Rattle.day_text.specs.Commands.{apply_of, post_of, set_day_of, show_of, surrender_of, with_order}
use Rattle.day_text.specs.Fleets.{actors_of, fleet_of}
use Rattle.day_text.specs.Kinds.{kind_of}
use Rattle.day_text.specs.Roads.{with_limit_of, with_node_of, with_segment_of, with_span_of}
use Rattle.day_text.specs.declared.day_so_far.DaySoFar.{DaySoFar}
use Rattle.day_text.specs.declared.kind.RecordKind.{RecordKind}
use Rattle.day_text.specs.declared.kind.RecordKind.TheVariants.{Actor, Apply, Day, End, Limit, Node, Post, Segment, SetDay, Show, Span, Surrender, Truck as truck_kind}
use Rattle.day_text.specs.declared.orders.Order.{Order}
use Rattle.day_text.specs.declared.progress.DayProgress.{DayProgress}
use Rattle.day_text.specs.declared.progress.DayProgress.TheVariants as so_far
use Rattle.day_text.specs.declared.refusal.Cause.{Cause}
use Rattle.day_text.specs.declared.refusal.Cause.TheVariants as why
use Rattle.day_text.specs.declared.refusal.RecordCause.TheVariants as bad

-- a day file: roads and trucks, the opening day as its text, the names of the actors, and the commands in the order of their
-- records; everything is numbered by its place, from 0
pub record DayParts : Type 0 where
  pub base : BaseLists
  pub day : List ℕ
  pub actors : List (List ℕ)
  pub commands : List Order

-- a day on which nothing else was said
abbrev pub fresh_day : List ℕ → DaySoFar
fresh_day day = record { network = no_roads; day = day; fleet = []; actors = []; orders = [] }

-- day,DAY
unfoldable pub opening_of : Row → Result DaySoFar Cause
opening_of fields = do
  (text, rest) ← said_in (day_form ∷ []) fields
  day ← or_bad (bad.Range 2) text
  Ok (fresh_day day)

-- what was said so far, with these roads
abbrev pub on_roads : DaySoFar → Result Roads Cause → Result DaySoFar Cause
on_roads d next = next >>= (λ roads. Ok (record d { network = roads }))

-- the same, with these trucks
abbrev pub on_fleet : DaySoFar → Result (List Truck) Cause → Result DaySoFar Cause
on_fleet d next = next >>= (λ fleet. Ok (record d { fleet = fleet }))

-- the same, with these actors
abbrev pub on_actors : DaySoFar → Result (List (List ℕ)) Cause → Result DaySoFar Cause
on_actors d next = next >>= (λ actors. Ok (record d { actors = actors }))

-- the same, with one command more
abbrev pub on_orders : DaySoFar → Result Order Cause → Result DaySoFar Cause
on_orders d next = next >>= (λ order. with_order d.orders order >>= (λ orders. Ok (record d { orders = orders })))

-- what a record of each kind adds to what was said so far
abbrev pub added : DaySoFar → RecordKind → Row → Result DaySoFar Cause
added d Day fields = opening_of fields
added d Node fields = on_roads d (with_node_of d.network fields)
added d Segment fields = on_roads d (with_segment_of d.network fields)
added d Limit fields = on_roads d (with_limit_of d.network fields)
added d Span fields = on_roads d (with_span_of d.network fields)
added d truck_kind fields = on_fleet d (fleet_of d.fleet fields)
added d Actor fields = on_actors d (actors_of d.actors fields)
added d Apply fields = on_orders d (apply_of d fields)
added d Post fields = on_orders d (post_of d fields)
added d SetDay fields = on_orders d (set_day_of d fields)
added d Surrender fields = on_orders d (surrender_of d fields)
added d Show fields = on_orders d (show_of d fields)
added d End fields = said_in [] fields >>= (λ nothing. Ok d)

-- what was said in front of a record, where its kind may stand there: the day comes first, the end last, and the others between
abbrev pub said_before : DayProgress → RecordKind → Option DaySoFar
said_before so_far.Start Day = Some (fresh_day [])
said_before so_far.Start kind = None
said_before (so_far.Open d) Day = None
said_before (so_far.Open d) kind = Some d
said_before (so_far.Ended d) kind = None

-- how far the records have come behind a record
abbrev pub come_to : RecordKind → DaySoFar → DayProgress
come_to End d = so_far.Ended d
come_to kind d = so_far.Open d

-- where a record of a known kind leads
abbrev pub judge_kind : DayProgress → RecordKind → Row → Result DayProgress Cause
judge_kind progress kind fields = do
  d ← or_bad bad.Order (said_before progress kind)
  next ← added d kind fields
  Ok (come_to kind next)

-- where a record of eight fields leads
abbrev pub judge_day : DayProgress → Row → Result DayProgress Cause
judge_day progress fields = or_bad bad.Kind (kind_of (field_of fields 0)) >>= (λ kind. judge_kind progress kind fields)

-- the parts of a day file whose records said so much
abbrev pub file_parts_of : DaySoFar → DayParts
file_parts_of d = record { base = record { roads = d.network; fleet = d.fleet }; day = d.day; actors = d.actors; commands = d.orders }

-- the file, where its end was told; else the row after the last one is refused
abbrev pub ended_day : ℕ × DayProgress → Result DayParts (ℕ × Cause)
ended_day (row, so_far.Start) = Err (row, why.Bad bad.End)
ended_day (row, so_far.Open d) = Err (row, why.Bad bad.End)
ended_day (row, so_far.Ended d) = Ok (file_parts_of d)

-- the day file that the bytes are, or the first row that is refused and its cause
abbrev pub day_of : List ℕ → Result DayParts (ℕ × Cause)
day_of bytes = judged judge_day 1 so_far.Start (rows_of bytes) >>= ended_day
