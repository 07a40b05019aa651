-- Every day file is named as records name things: each record leaves what was said so far so.
use Rattle.std.proofs.Common.{◌≡◌, ◌∷◌, ◌++◌, [], List, ℕ, Bool, true, false, cond, Result, Ok, Err, Option, Some, None, IfOk, All, length, refl, sym, ap, subst}
use Rattle.std.specs.Prelude.{map, nat_lt, not, slice_get}
use Rattle.std.proofs.lemmas.Bool.{not-true}
use Rattle.std.proofs.lemmas.List.{map_push}
use Rattle.std.proofs.lemmas.List.Elements.{All-nil, All-push}
use Rattle.std.proofs.lemmas.Option.{slice_get-get_or}
use Rattle.names.specs.Names.{is_name}
use Rattle.road_graph.specs.Adding.{limited, new_segment, network_with_limit, with_node, with_segment, with_span}
use Rattle.road_graph.specs.Ranges.{is_feet, is_inches, is_limit, is_rating}
use Rattle.road_graph.specs.Roads.{AreDistinct, Roads, has_name, no_roads, no_segment, segment_at, segment_names, span_names, spans_of, number_of as number_named}
use Rattle.road_graph.specs.declared.segment.Segment.{Segment}
use Rattle.road_graph.specs.declared.segment.Span.{Span}
use Rattle.road_graph.proofs.Distinct.{distinct-push}
use Rattle.road_graph.proofs.Growth.{names-limit}
use Rattle.trip_analysis.specs.declared.base.Truck.{Truck}
use Rattle.day_text.specs.Causes.{◌>>=◌, demand, limit, or_bad}
use Rattle.day_text.specs.Days.{DayParts, added, come_to, day_of, ended_day, file_parts_of, fresh_day, judge_day, judge_kind, on_actors, on_fleet, on_orders, on_roads, opening_of}
use Rattle.day_text.specs.Commands.{apply_of, post_of, set_day_of, show_of, surrender_of, with_order}
use Rattle.day_text.specs.Fields.{field_of, name_field}
use Rattle.day_text.specs.Fleets.{actors_of, fleet_of, most_actors, truck_names}
use Rattle.day_text.specs.Forms.{Axles, Day as day_form, Form, Limit, Name, Number, said_in}
use Rattle.day_text.specs.Kinds.{kind_of}
use Rattle.day_text.specs.Named.{DayFilesAreNamed, HasCarrier, IsName, IsNamed}
use Rattle.day_text.specs.Records.{Row, judged, rows_of}
use Rattle.day_text.specs.Roads.{with_limit_of, with_node_of, with_segment_of, with_span_of}
use Rattle.day_text.specs.Trucks.{load_of, truck_fields_of}
use Rattle.day_text.specs.declared.day_so_far.DaySoFar.{DaySoFar}
use Rattle.day_text.specs.declared.kind.RecordKind.{RecordKind}
use Rattle.day_text.specs.declared.kind.RecordKind.TheVariants.{Actor, Apply, Day, End, Limit as limit_kind, Node, Post, Segment as segment_kind, SetDay, Show, Span as span_kind, Surrender, Truck as truck_kind}
use Rattle.day_text.specs.declared.orders.Order.{Order}
use Rattle.day_text.specs.declared.progress.DayProgress.{DayProgress}
use Rattle.day_text.specs.declared.progress.DayProgress.TheVariants as so_far
use Rattle.day_text.specs.declared.refusal.Cause.{Cause}
use Rattle.day_text.specs.declared.refusal.Kind.TheVariants as kind
use Rattle.day_text.specs.declared.refusal.RecordCause.TheVariants as bad
use Rattle.day_text.specs.declared.truck.TruckFields.{TruckFields}
use Rattle.day_text.proofs.Kept.{segment_there}
use Rattle.day_text.proofs.Saying.{all_said}
use Rattle.day_text.proofs.Steps.{Gives, found_some, gives, records_keep, refuses, then_gives, was_demanded}

-- a field that is read as a name is one
name_read : (text name : List ℕ) → name_field text ≡ Some name → IsName name
name_read text name e = by (is_name text) refl e
  where
    by : (b : Bool) → is_name text ≡ b → cond b (Some text) None ≡ Some name → is_name name ≡ true
    by true is k = let same : text ≡ name = cc in subst (λ (t : List ℕ). is_name t ≡ true) same is
    by false is k = absurd (cc k)

-- the nodes, the segments and the spans have names
record HaveNames (roads : Roads) : Type 0 where
  nodes : All IsName roads.nodes
  segments : All IsName (segment_names roads.segments)
  spans : All IsName (span_names roads.spans)

node_named : (roads : Roads) (fields : Row) → HaveNames roads → Gives HaveNames (with_node_of roads fields)
unfolding with_node_of
node_named roads fields h =
    then_gives {r = said_in (Name ∷ []) fields} (λ said e.
    then_gives {r = demand (not (has_name said.0 roads.nodes)) bad.Same} (λ a _.
    then_gives {r = limit (nat_lt (length roads.nodes) 4096) kind.Nodes} (λ b _.
    gives HaveNames (with_node roads said.0) (record {
      nodes = All-push IsName roads.nodes said.0 h.nodes (name_read (field_of fields 1) said.0 ((all_said (Name ∷ []) fields).ok said e).0);
      segments = h.segments;
      spans = h.spans;
    }))))

segment_named : (roads : Roads) (fields : Row) → HaveNames roads → Gives HaveNames (with_segment_of roads fields)
unfolding with_segment_of
segment_named roads fields h =
    then_gives {r = said_in (Name ∷ Name ∷ Name ∷ Number ∷ []) fields} (λ said e.
    then_gives {r = demand (not (has_name said.0 (segment_names roads.segments))) bad.Same} (λ a _.
    then_gives {r = or_bad (bad.Unknown 3) (number_named said.1.0 roads.nodes)} (λ i _.
    then_gives {r = or_bad (bad.Unknown 4) (number_named said.1.1.0 roads.nodes)} (λ j _.
    then_gives {r = demand (is_feet said.1.1.1.0) (bad.Range 5)} (λ b _.
    then_gives {r = limit (nat_lt (length roads.segments) 16384) kind.Segments} (λ c _.
    let s : Segment = new_segment said.0 i j said.1.1.1.0 in
    let named = name_read (field_of fields 1) said.0 ((all_said (Name ∷ Name ∷ Name ∷ Number ∷ []) fields).ok said e).0 in
    gives HaveNames (with_segment roads s) (record {
      nodes = h.nodes;
      segments = subst (All IsName) (sym (map_push (λ (t : Segment). t.name) roads.segments s)) (All-push IsName (segment_names roads.segments) said.0 h.segments named);
      spans = h.spans;
    })))))))

limit_named : (roads : Roads) (fields : Row) → HaveNames roads → Gives HaveNames (with_limit_of roads fields)
unfolding with_limit_of
limit_named roads fields h =
    then_gives {r = said_in (Name ∷ Limit ∷ Number ∷ []) fields} (λ said _.
    then_gives {r = or_bad (bad.Unknown 2) (number_named said.0 (segment_names roads.segments))} (λ i known.
    then_gives {r = demand (is_limit said.1.0 said.1.1.0) (bad.Range 4)} (λ a _.
    let there = segment_there roads said.0 i (found_some (bad.Unknown 2) (number_named said.0 (segment_names roads.segments)) i known) in
    gives HaveNames (network_with_limit roads i said.1.0 said.1.1.0) (record {
      nodes = h.nodes;
      segments = subst (All IsName) (sym (names-limit roads.segments i (segment_at roads.segments i) said.1.0 said.1.1.0 (slice_get-get_or roads.segments i no_segment there))) h.segments;
      spans = h.spans;
    }))))

span_named : (roads : Roads) (fields : Row) → HaveNames roads → Gives HaveNames (with_span_of roads fields)
unfolding with_span_of
span_named roads fields h =
    then_gives {r = said_in (Name ∷ Name ∷ Number ∷ Number ∷ []) fields} (λ said e'.
    then_gives {r = demand (not (has_name said.0 (span_names roads.spans))) bad.Same} (λ a _.
    then_gives {r = or_bad (bad.Unknown 3) (number_named said.1.0 (segment_names roads.segments))} (λ i _.
    then_gives {r = demand (is_inches said.1.1.0) (bad.Range 4)} (λ b _.
    then_gives {r = demand (is_rating said.1.1.1.0) (bad.Range 5)} (λ c _.
    then_gives {r = limit (nat_lt (length roads.spans) 2048) kind.Spans} (λ e _.
    then_gives {r = limit (nat_lt (length (spans_of roads.spans i)) 16) kind.SpansOfSegment} (λ f _.
    let t : Span = record { name = said.0; segment = i; inches = said.1.1.0; rating = said.1.1.1.0 } in
    let named = name_read (field_of fields 1) said.0 ((all_said (Name ∷ Name ∷ Number ∷ Number ∷ []) fields).ok said e').0 in
    gives HaveNames (with_span roads t) (record {
      nodes = h.nodes;
      segments = h.segments;
      spans = subst (All IsName) (sym (map_push (λ (u : Span). u.name) roads.spans t)) (All-push IsName (span_names roads.spans) said.0 h.spans named);
    }))))))))

-- the trucks and their carriers have names, and no two trucks have the same
record AreNamedTrucks (trucks : List Truck) : Type 0 where
  names : All IsName (truck_names trucks)
  carriers : All HasCarrier trucks
  once : AreDistinct (truck_names trucks)

-- the two names of a truck's record
abbrev HasNames : TruckFields → Type 0
HasNames t = IsName t.name × IsName t.carrier

abbrev truck_forms : List Form
truck_forms = Name ∷ Name ∷ Number ∷ Number ∷ Number ∷ Axles ∷ []

fields_named : (fields : Row) → Gives HasNames (truck_fields_of fields)
unfolding truck_fields_of
fields_named fields =
    then_gives {r = said_in truck_forms fields} (λ said e.
    let read = (all_said truck_forms fields).ok said e in
    gives HasNames (record { name = said.0; carrier = said.1.0; height = said.1.1.0; width = said.1.1.1.0; length = said.1.1.1.1.0; axles = said.1.1.1.1.1.0 })
    (name_read (field_of fields 1) said.0 read.0, name_read (field_of fields 2) said.1.0 read.1.0))

trucks_named : (trucks : List Truck) (fields : Row) → AreNamedTrucks trucks → Gives AreNamedTrucks (fleet_of trucks fields)
unfolding fleet_of
trucks_named trucks fields h =
    then_gives {r = truck_fields_of fields} (λ t e.
    then_gives {r = demand (not (has_name t.name (truck_names trucks))) bad.Same} (λ a new.
    then_gives {r = load_of t.height t.width t.length t.axles} (λ load _.
    then_gives {r = limit (nat_lt (length trucks) 64) kind.Trucks} (λ b _.
    let truck : Truck = record { name = t.name; carrier = t.carrier; load = load } in
    let names = (fields_named fields).ok t e in
    let more = map_push (λ (u : Truck). u.name) trucks truck in
    gives AreNamedTrucks (trucks ++ truck ∷ []) (record {
      names = subst (All IsName) (sym more) (All-push IsName (truck_names trucks) t.name h.names names.0);
      carriers = All-push HasCarrier trucks truck h.carriers names.1;
      once = subst AreDistinct (sym more) (distinct-push (truck_names trucks) t.name h.once (not-true _ (was_demanded _ bad.Same a new)));
    })))))

-- the actors have names, and no two have the same
record AreNamedActors (actors : List (List ℕ)) : Type 0 where
  names : All IsName actors
  once : AreDistinct actors

actors_named : (actors : List (List ℕ)) (fields : Row) → AreNamedActors actors → Gives AreNamedActors (actors_of actors fields)
unfolding actors_of
actors_named actors fields h =
    then_gives {r = said_in (Name ∷ []) fields} (λ said e.
    then_gives {r = demand (not (has_name said.0 actors)) bad.Same} (λ a new.
    then_gives {r = limit (nat_lt (length actors) most_actors) kind.Actors} (λ b _.
    gives AreNamedActors (actors ++ said.0 ∷ []) (record {
      names = All-push IsName actors said.0 h.names (name_read (field_of fields 1) said.0 ((all_said (Name ∷ []) fields).ok said e).0);
      once = distinct-push actors said.0 h.once (not-true _ (was_demanded _ bad.Same a new));
    }))))

-- what was said so far is so named
record AllNamed (d : DaySoFar) : Type 0 where
  roads : HaveNames d.network
  fleet : AreNamedTrucks d.fleet
  actors : AreNamedActors d.actors

on_roads_named : (d : DaySoFar) (next : Result Roads Cause) → Gives HaveNames next → AllNamed d → Gives AllNamed (on_roads d next)
on_roads_named d next named h = then_gives {r = next} (λ roads e. gives AllNamed (record d { network = roads }) (record { roads = named.ok roads e; fleet = h.fleet; actors = h.actors }))

on_fleet_named : (d : DaySoFar) (fields : Row) → AllNamed d → Gives AllNamed (on_fleet d (fleet_of d.fleet fields))
on_fleet_named d fields h = then_gives {r = fleet_of d.fleet fields} (λ fleet e.
    gives AllNamed (record d { fleet = fleet }) (record { roads = h.roads; fleet = (trucks_named d.fleet fields h.fleet).ok fleet e; actors = h.actors }))

on_actors_named : (d : DaySoFar) (fields : Row) → AllNamed d → Gives AllNamed (on_actors d (actors_of d.actors fields))
on_actors_named d fields h = then_gives {r = actors_of d.actors fields} (λ actors e.
    gives AllNamed (record d { actors = actors }) (record { roads = h.roads; fleet = h.fleet; actors = (actors_named d.actors fields h.actors).ok actors e }))

on_orders_named : (d : DaySoFar) (next : Result Order Cause) → AllNamed d → Gives AllNamed (on_orders d next)
on_orders_named d next h =
    then_gives {r = next} (λ order e.
    then_gives {r = with_order d.orders order} (λ orders e'.
    gives AllNamed (record d { orders = orders }) (record { roads = h.roads; fleet = h.fleet; actors = h.actors })))

none_twice : AreDistinct []
none_twice = record { once = λ i j name a b. absurd (cc) }

opening_named : (fields : Row) → Gives AllNamed (opening_of fields)
unfolding opening_of
opening_named fields =
    then_gives {r = said_in (day_form ∷ []) fields} (λ said e.
    then_gives {r = or_bad (bad.Range 2) said.0} (λ day e'.
    gives AllNamed (fresh_day day) (record {
      roads = record { nodes = All-nil IsName; segments = All-nil IsName; spans = All-nil IsName };
      fleet = record { names = All-nil IsName; carriers = All-nil HasCarrier; once = none_twice };
      actors = record { names = All-nil IsName; once = none_twice };
    })))

added_named : (d : DaySoFar) (kind : RecordKind) (fields : Row) → AllNamed d → Gives AllNamed (added d kind fields)
added_named d Day fields h = opening_named fields
added_named d Node fields h = on_roads_named d _ (node_named d.network fields h.roads) h
added_named d segment_kind fields h = on_roads_named d _ (segment_named d.network fields h.roads) h
added_named d limit_kind fields h = on_roads_named d _ (limit_named d.network fields h.roads) h
added_named d span_kind fields h = on_roads_named d _ (span_named d.network fields h.roads) h
added_named d truck_kind fields h = on_fleet_named d fields h
added_named d Actor fields h = on_actors_named d fields h
added_named d Apply fields h = on_orders_named d (apply_of d fields) h
added_named d Post fields h = on_orders_named d (post_of d fields) h
added_named d SetDay fields h = on_orders_named d (set_day_of d fields) h
added_named d Surrender fields h = on_orders_named d (surrender_of d fields) h
added_named d Show fields h = on_orders_named d (show_of d fields) h
added_named d End fields h = then_gives {r = said_in [] fields} (λ nothing _. gives AllNamed d h)

abbrev Holds : DayProgress → Type 0
Holds so_far.Start = Unit {0}
Holds (so_far.Open d) = AllNamed d
Holds (so_far.Ended d) = AllNamed d

comes_to : (kind : RecordKind) (d : DaySoFar) → AllNamed d → Holds (come_to kind d)
comes_to End d h = h
comes_to kind d h = h

kind_named : (p : DayProgress) (kind : RecordKind) (fields : Row) → Holds p → Gives Holds (judge_kind p kind fields)
kind_named so_far.Start Day fields h = then_gives {r = opening_of fields} (λ d e. gives Holds (so_far.Open d) ((opening_named fields).ok d e))
kind_named so_far.Start kind fields h = refuses Holds _
kind_named (so_far.Open d) Day fields h = refuses Holds _
kind_named (so_far.Open d) kind fields h = then_gives {r = added d kind fields} (λ next e. gives Holds (come_to kind next) (comes_to kind next ((added_named d kind fields h).ok next e)))
kind_named (so_far.Ended d) kind fields h = refuses Holds _

step_named : (p : DayProgress) (fields : Row) → Holds p → Gives Holds (judge_day p fields)
step_named p fields h = then_gives {r = or_bad bad.Kind (kind_of (field_of fields 0))} (λ kind _. kind_named p kind fields h)

ends : (row : ℕ) (p : DayProgress) → Holds p → IfOk (ended_day (row, p)) IsNamed
ends row so_far.Start h = tt
ends row (so_far.Open d) h = tt
ends row (so_far.Ended d) h = record {
  nodes = h.roads.nodes;
  segments = h.roads.segments;
  spans = h.roads.spans;
  trucks = h.fleet.names;
  carriers = h.fleet.carriers;
  actors = h.actors.names;
  each_truck = h.fleet.once;
  each_actor = h.actors.once;
}

finishes : (r : Result (ℕ × DayProgress) _) → IfOk r (λ (x : ℕ × DayProgress). Holds x.1) → IfOk (r >>= ended_day) IsNamed
finishes (Ok (row, p)) h = ends row p h
finishes (Err e) h = tt

pub day_named : DayFilesAreNamed
day_named bytes file e =
    subst (λ r. IfOk r IsNamed) e (finishes (judged judge_day 1 so_far.Start (rows_of bytes)) (records_keep judge_day Holds step_named (rows_of bytes) 1 so_far.Start tt))
