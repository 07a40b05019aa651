-- What every day file keeps, and the bounds that it is within: each record leaves what was said so far so.
use Rattle.std.proofs.Common.{◌≡◌, ◌≤◌, ◌<◌, ◌∷◌, ◌++◌, ◌&&◌, [], List, ℕ, Bool, true, Result, Ok, Err, IfOk, All, length, refl, subst, arith, length-append}
use Rattle.std.specs.Prelude.{nat_lt, not}
use Rattle.std.specs.Cmp.{first_so, second_so}
use Rattle.std.proofs.lemmas.Bool.{ltb-true, lt-ltb}
use Rattle.std.proofs.lemmas.List.Elements.{All-nil, All-push, All-weaker}
use Rattle.axle_train.specs.declared.axle.Axle.{Axle}
use Rattle.axle_train.specs.Bounds.{IsTrain}
use Rattle.axle_train.specs.Refusals.{refusal_of}
use Rattle.axle_train.proofs.Accepted.{is_train}
use Rattle.clearance_rules.specs.Loads.{LoadParts, is_cross_section, is_length, is_load}
use Rattle.trip_analysis.specs.Bases.{BaseLists}
use Rattle.trip_analysis.specs.declared.base.Truck.{Truck}
use Rattle.office_words.specs.Commands.{MayCarryOut}
use Rattle.office_words.specs.declared.entry.Command.{Command}
use Rattle.office_words.specs.declared.entry.Command.TheVariants as command
use Rattle.restriction_log.specs.Changes.{replaced_by, takes, takes_replaced}
use Rattle.restriction_log.specs.declared.change.Change.{Change}
use Rattle.restriction_log.specs.declared.change.Replaced.{Replaced}
use Rattle.restriction_log.specs.declared.change.Replaced.TheVariants as replaced
use Rattle.road_graph.specs.Ranges.{is_limit, is_rating}
use Rattle.road_graph.specs.Roads.{IsRoads, Roads, has_name, no_roads}
use Rattle.day_text.specs.Causes.{◌>>=◌, Tells, demand, limit, or_bad, unless_refused}
use Rattle.day_text.specs.Fields.{field_of}
use Rattle.day_text.specs.Forms.{Day as day_form, Name, said_in}
use Rattle.day_text.specs.Records.{Row, judged, rows_of}
use Rattle.day_text.specs.declared.refusal.Cause.{Cause}
use Rattle.day_text.specs.declared.refusal.FileRefusal.{FileRefusal}
use Rattle.day_text.specs.declared.refusal.Kind.TheVariants as kind
use Rattle.day_text.specs.declared.refusal.RecordCause.TheVariants as bad
use Rattle.day_text.proofs.Saying.{all_said}
use Rattle.day_text.proofs.Steps.{Gives, found_some, gives, not_refused, records_keep, refuses, then_gives, was_demanded, was_within}
use Rattle.day_text.specs.Bounds.{DayFilesAreBounded, IsBounded, IsCommandWithin, IsSized}
use Rattle.day_text.specs.Commands.{with_order}
use Rattle.day_text.specs.Days.{DayParts, added, come_to, day_of, ended_day, file_parts_of, fresh_day, judge_day, judge_kind, on_actors, on_fleet, on_orders, on_roads, opening_of}
use Rattle.day_text.specs.Fleets.{actors_of, fleet_of, most_actors, truck_names}
use Rattle.day_text.specs.Kinds.{kind_of}
use Rattle.day_text.specs.Laws.{IsDayFile}
use Rattle.day_text.specs.Trucks.{load_of, train_number, truck_fields_of}
use Rattle.day_text.specs.declared.day_so_far.DaySoFar.{DaySoFar}
use Rattle.day_text.specs.declared.kind.RecordKind.{RecordKind}
use Rattle.day_text.specs.declared.kind.RecordKind.TheVariants.{Actor, Apply, Day, End, Limit, Node, Post, Segment, SetDay, Show, Span, Surrender, Truck as truck_kind}
use Rattle.day_text.specs.declared.orders.Order.{Order}
use Rattle.day_text.specs.declared.progress.DayProgress.{DayProgress}
use Rattle.day_text.specs.declared.progress.DayProgress.TheVariants as so_far
use Rattle.day_text.proofs.Commanded.{IsGood, apply_good, base_of, post_good, set_day_good, show_good, surrender_good}
use Rattle.day_text.proofs.Kept.{HaveGrown, KeepsRoads, limit_grows, node_grows, segment_grows, sound_kept, span_grows}
use Rattle.day_text.proofs.Readings.{maybe_day, there_day}

-- a command that might be given may be given where there is more
sound_more : (old new : BaseLists) → KeepsRoads old.roads new.roads → length old.fleet ≤ length new.fleet → (c : Command) → MayCarryOut old c → MayCarryOut new c
sound_more old new kept fleet (command.Apply a) s = sound_kept old new kept fleet a s
sound_more old new kept fleet (command.Post change) s = tt
sound_more old new kept fleet (command.Day day) s = tt
sound_more old new kept fleet (command.Surrender number) s = tt
sound_more old new kept fleet (command.Show number) s = tt

all_sound : (old new : BaseLists) → KeepsRoads old.roads new.roads → length old.fleet ≤ length new.fleet → (orders : List Order) → All (λ (o : Order). MayCarryOut old o.command) orders → All (λ (o : Order). MayCarryOut new o.command) orders
all_sound old new kept fleet orders h = All-weaker (λ (o : Order). MayCarryOut old o.command) (λ (o : Order). MayCarryOut new o.command) (λ o s. sound_more old new kept fleet o.command s) orders h

-- roads that have more take what fewer took
more_is : (a old new : ℕ) → old ≤ new → nat_lt a old ≡ true → nat_lt a new ≡ true
more_is a old new le e = let less : a < old = ltb-true _ _ e in lt-ltb _ _ (omega arith)

wider : (a old new : ℕ) (b : Bool) → old ≤ new → (nat_lt a old && b) ≡ true → (nat_lt a new && b) ≡ true
wider a old new b le e = rw (more_is a old new le (first_so (nat_lt a old) b e)) (second_so (nat_lt a old) b e)

still_has : (old new : Roads) → HaveGrown old new → (r : Replaced) → takes_replaced old r ≡ true → takes_replaced new r ≡ true
still_has old new more (replaced.Limit segment what value) e = wider segment _ _ (is_limit what value) more.segments e
still_has old new more (replaced.Rating span permille) e = wider span _ _ (is_rating permille) more.spans e

still_takes : (old new : Roads) → HaveGrown old new → (c : Change) → takes old c ≡ true → takes new c ≡ true
still_takes old new more c = still_has old new more (replaced_by c)

still_within : (old new : Roads) → HaveGrown old new → (c : Command) → IsCommandWithin old c → IsCommandWithin new c
still_within old new more (command.Apply a) h = h
still_within old new more (command.Post change) h = still_takes old new more change h
still_within old new more (command.Day day) h = h
still_within old new more (command.Surrender number) h = h
still_within old new more (command.Show number) h = h

-- what was said so far keeps what every day file keeps, within its bounds
record Keeps (d : DaySoFar) : Type 0 where
  file : IsDayFile (file_parts_of d)
  bounds : IsBounded (file_parts_of d)

roads_keep : (d : DaySoFar) (next : Result Roads Cause) → Gives (HaveGrown d.network) next → Keeps d → Gives Keeps (on_roads d next)
roads_keep d next grows h = then_gives {r = next} (λ roads e.
    let grown : HaveGrown d.network roads = grows.ok roads e in
    gives Keeps (record d { network = roads }) (record {
      file = record {
        few_actors = h.file.few_actors;
        few_commands = h.file.few_commands;
        callers = h.file.callers;
        sound = all_sound (base_of d) (record { roads = roads; fleet = d.fleet }) grown.kept (omega arith) d.orders h.file.sound;
      };
      bounds = record {
        roads = grown.roads h.bounds.roads;
        base = record { few = h.bounds.base.few; trains = h.bounds.base.trains };
        sizes = h.bounds.sizes;
        day = h.bounds.day;
        commands =
            All-weaker (λ (o : Order). IsCommandWithin d.network o.command) (λ (o : Order). IsCommandWithin roads o.command)
            (λ o within. still_within d.network roads grown o.command within) d.orders h.bounds.commands;
      };
    }))

-- the record of a truck
record IsLoad (load : LoadParts) : Type 0 where
  sizes : is_load load.height load.width load.length ≡ true
  train : IsTrain load.train

load_gives : (height width long : ℕ) (axles : List Axle) → Gives IsLoad (load_of height width long axles)
unfolding load_of
load_gives height width long axles =
    then_gives {r = demand (is_cross_section height) (bad.Range 4)} (λ a high.
    then_gives {r = demand (is_cross_section width) (bad.Range 5)} (λ b wide.
    then_gives {r = demand (is_length long) (bad.Range 6)} (λ c far.
    then_gives {r = unless_refused (λ refusal. bad.Train (train_number refusal)) axles (refusal_of axles)} (λ train taken.
    let is = not_refused (λ refusal. bad.Train (train_number refusal)) axles train (refusal_of axles) taken in
    gives IsLoad (record { height = height; width = width; length = long; train = train }) (record {
      sizes = rw (was_demanded (is_cross_section height) (bad.Range 4) a high, was_demanded (is_cross_section width) (bad.Range 5) b wide) (was_demanded (is_length long) (bad.Range 6) c far);
      train = subst IsTrain is.0 (is_train axles is.1);
    })))))

-- no truck is gone, they are few enough, and trucks within their bounds stay so
record HaveMore (old new : List Truck) : Type 0 where
  many : length old ≤ length new
  few : length new ≤ 64
  sizes : All IsSized old → All IsSized new
  trains : All (λ (t : Truck). IsTrain t.load.train) old → All (λ (t : Truck). IsTrain t.load.train) new

more_trucks : (trucks : List Truck) (fields : Row) → Gives (HaveMore trucks) (fleet_of trucks fields)
unfolding fleet_of
more_trucks trucks fields =
    then_gives {r = truck_fields_of fields} (λ t _.
    then_gives {r = demand (not (has_name t.name (truck_names trucks))) bad.Same} (λ a _.
    then_gives {r = load_of t.height t.width t.length t.axles} (λ load taken.
    then_gives {r = limit (nat_lt (length trucks) 64) kind.Trucks} (λ b few.
    let truck : Truck = record { name = t.name; carrier = t.carrier; load = load } in
    let is = (load_gives t.height t.width t.length t.axles).ok load taken in
    let room : length trucks < 64 = ltb-true _ _ (was_within _ kind.Trucks b few) in
    gives (HaveMore trucks) (trucks ++ truck ∷ []) (record {
      many = omega (arith, length-append trucks (truck ∷ []));
      few = omega (arith, length-append trucks (truck ∷ []));
      sizes = λ h. All-push IsSized trucks truck h is.sizes;
      trains = λ h. All-push (λ (u : Truck). IsTrain u.load.train) trucks truck h is.train;
    })))))

fleet_keeps : (d : DaySoFar) (fields : Row) → Keeps d → Gives Keeps (on_fleet d (fleet_of d.fleet fields))
fleet_keeps d fields h = then_gives {r = fleet_of d.fleet fields} (λ fleet e.
    let more : HaveMore d.fleet fleet = (more_trucks d.fleet fields).ok fleet e in
    gives Keeps (record d { fleet = fleet }) (record {
      file = record {
        few_actors = h.file.few_actors;
        few_commands = h.file.few_commands;
        callers = h.file.callers;
        sound = all_sound (base_of d) (record { roads = d.network; fleet = fleet }) (record { nodes = omega arith; segments = λ i s at. (s, at, refl, refl) }) more.many d.orders h.file.sound;
      };
      bounds = record {
        roads = h.bounds.roads;
        base = record { few = more.few; trains = more.trains h.bounds.base.trains };
        sizes = more.sizes h.bounds.sizes;
        day = h.bounds.day;
        commands = h.bounds.commands;
      };
    }))

-- no actor is gone, and they are few enough
abbrev HasFew : List (List ℕ) → List (List ℕ) → Type 0
HasFew old new = (length old ≤ length new) × (length new ≤ most_actors)

more_actors : (actors : List (List ℕ)) (fields : Row) → Gives (HasFew actors) (actors_of actors fields)
unfolding actors_of
more_actors actors fields =
    then_gives {r = said_in (Name ∷ []) fields} (λ said _.
    then_gives {r = demand (not (has_name said.0 actors)) bad.Same} (λ a _.
    then_gives {r = limit (nat_lt (length actors) most_actors) kind.Actors} (λ b b_is.
    let room : length actors < most_actors = ltb-true (length actors) most_actors (was_within (nat_lt (length actors) most_actors) kind.Actors b b_is) in
    gives (HasFew actors) (actors ++ said.0 ∷ []) (omega (arith, length-append actors (said.0 ∷ [])), omega (arith, length-append actors (said.0 ∷ []))))))

actors_keep : (d : DaySoFar) (fields : Row) → Keeps d → Gives Keeps (on_actors d (actors_of d.actors fields))
actors_keep d fields h = then_gives {r = actors_of d.actors fields} (λ actors e.
    let more : HasFew d.actors actors = (more_actors d.actors fields).ok actors e in
    gives Keeps (record d { actors = actors }) (record {
      file = record {
        few_actors = more.1;
        few_commands = h.file.few_commands;
        callers = All-weaker (λ (o : Order). o.actor < length d.actors) (λ (o : Order). o.actor < length actors) (λ o within. omega (arith, within, more.0)) d.orders h.file.callers;
        sound = h.file.sound;
      };
      bounds = record { roads = h.bounds.roads; base = record { few = h.bounds.base.few; trains = h.bounds.base.trains }; sizes = h.bounds.sizes; day = h.bounds.day; commands = h.bounds.commands };
    }))

-- one command more, of few enough
abbrev IsOneMore : List Order → Order → List Order → Type 0
IsOneMore old order new = (old ++ order ∷ [] ≡ new) × (length old < 4096)

one_more : (orders : List Order) (order : Order) → Gives (IsOneMore orders order) (with_order orders order)
one_more orders order = then_gives {r = limit (nat_lt (length orders) 4096) kind.Commands} (λ x e. gives (IsOneMore orders order) (orders ++ order ∷ [])
    (refl, ltb-true (length orders) 4096 (was_within (nat_lt (length orders) 4096) kind.Commands x e)))

order_keeps : (d : DaySoFar) (order : Order) (orders : List Order) → Keeps d → IsGood d order → IsOneMore d.orders order orders → Keeps (record d { orders = orders })
order_keeps d order orders h good more = subst (λ (os : List Order). Keeps (record d { orders = os })) more.0 (record {
  file = record {
    few_actors = h.file.few_actors;
    few_commands = omega (arith, length-append d.orders (order ∷ []), more.1);
    callers = All-push (λ (o : Order). o.actor < length d.actors) d.orders order h.file.callers good.caller;
    sound = All-push (λ (o : Order). MayCarryOut (base_of d) o.command) d.orders order h.file.sound good.sound;
  };
  bounds = record {
    roads = h.bounds.roads;
    base = record { few = h.bounds.base.few; trains = h.bounds.base.trains };
    sizes = h.bounds.sizes;
    day = h.bounds.day;
    commands = All-push (λ (o : Order). IsCommandWithin d.network o.command) d.orders order h.bounds.commands good.within;
  };
})

orders_keep : (d : DaySoFar) (next : Result Order Cause) → Gives (IsGood d) next → Keeps d → Gives Keeps (on_orders d next)
orders_keep d next good h = then_gives {r = next} (λ order e. then_gives {r = with_order d.orders order} (λ orders e'. gives Keeps (record d { orders = orders })
    (order_keeps d order orders h (good.ok order e) ((one_more d.orders order).ok orders e'))))

none_fit : IsRoads no_roads
none_fit = record {
  few_nodes = omega arith;
  few_segments = omega arith;
  few_spans = omega arith;
  few_on = λ i. omega arith;
  each = λ i s at. absurd (cc);
  each_span = λ i t at. absurd (cc);
  node_names = record { once = λ i j name a b. absurd (cc) };
  segment_names = record { once = λ i j name a b. absurd (cc) };
  span_names = record { once = λ i j name a b. absurd (cc) };
}

opening_keeps : (fields : Row) → Gives Keeps (opening_of fields)
unfolding opening_of
opening_keeps fields =
    then_gives {r = said_in (day_form ∷ []) fields} (λ said e.
    then_gives {r = or_bad (bad.Range 2) said.0} (λ day day_is.
    let read = (all_said (day_form ∷ []) fields).ok said e in
    gives Keeps (fresh_day day) (record {
      file = record { few_actors = omega arith; few_commands = omega arith; callers = All-nil _; sound = All-nil _ };
      bounds = record {
        roads = none_fit;
        base = record { few = omega arith; trains = All-nil _ };
        sizes = All-nil _;
        day = there_day said.0 day (maybe_day (field_of fields 1) said.0 read.0) (found_some (bad.Range 2) said.0 day day_is);
        commands = All-nil _;
      };
    })))

added_keeps : (d : DaySoFar) (kind : RecordKind) (fields : Row) → Keeps d → Gives Keeps (added d kind fields)
added_keeps d Day fields h = opening_keeps fields
added_keeps d Node fields h = roads_keep d _ (node_grows d.network fields) h
added_keeps d Segment fields h = roads_keep d _ (segment_grows d.network fields) h
added_keeps d Limit fields h = roads_keep d _ (limit_grows d.network fields) h
added_keeps d Span fields h = roads_keep d _ (span_grows d.network fields) h
added_keeps d truck_kind fields h = fleet_keeps d fields h
added_keeps d Actor fields h = actors_keep d fields h
added_keeps d Apply fields h = orders_keep d _ (apply_good d fields) h
added_keeps d Post fields h = orders_keep d _ (post_good d fields) h
added_keeps d SetDay fields h = orders_keep d _ (set_day_good d fields) h
added_keeps d Surrender fields h = orders_keep d _ (surrender_good d fields) h
added_keeps d Show fields h = orders_keep d _ (show_good d fields) h
added_keeps d End fields h = then_gives {r = said_in [] fields} (λ nothing _. gives Keeps d h)

abbrev Holds : DayProgress → Type 0
Holds so_far.Start = Unit {0}
Holds (so_far.Open d) = Keeps d
Holds (so_far.Ended d) = Keeps d

comes_to : (kind : RecordKind) (d : DaySoFar) → Keeps d → Holds (come_to kind d)
comes_to End d h = h
comes_to kind d h = h

kind_keeps : (p : DayProgress) (kind : RecordKind) (fields : Row) → Holds p → Gives Holds (judge_kind p kind fields)
kind_keeps so_far.Start Day fields h = then_gives {r = opening_of fields} (λ d e. gives Holds (so_far.Open d) ((opening_keeps fields).ok d e))
kind_keeps so_far.Start kind fields h = refuses Holds _
kind_keeps (so_far.Open d) Day fields h = refuses Holds _
kind_keeps (so_far.Open d) kind fields h = then_gives {r = added d kind fields} (λ next e. gives Holds (come_to kind next) (comes_to kind next ((added_keeps d kind fields h).ok next e)))
kind_keeps (so_far.Ended d) kind fields h = refuses Holds _

step_keeps : (p : DayProgress) (fields : Row) → Holds p → Gives Holds (judge_day p fields)
step_keeps p fields h = then_gives {r = or_bad bad.Kind (kind_of (field_of fields 0))} (λ kind _. kind_keeps p kind fields h)

-- a day file keeps what every day file keeps, within its bounds
record IsKept (parts : DayParts) : Type 0 where
  file : IsDayFile parts
  bounds : IsBounded parts

ends : (row : ℕ) (p : DayProgress) → Holds p → IfOk (ended_day (row, p)) IsKept
ends row so_far.Start h = tt
ends row (so_far.Open d) h = tt
ends row (so_far.Ended d) h = record { file = h.file; bounds = h.bounds }

finishes : (r : Result (ℕ × DayProgress) _) → IfOk r (λ (x : ℕ × DayProgress). Holds x.1) → IfOk (r >>= ended_day) IsKept
finishes (Ok (row, p)) h = ends row p h
finishes (Err e) h = tt

day_kept : (bytes : List ℕ) (file : DayParts) → day_of bytes ≡ Ok file → IsKept file
day_kept bytes file e =
    subst (λ r. IfOk r IsKept) e (finishes (judged judge_day 1 so_far.Start (rows_of bytes)) (records_keep judge_day Holds step_keeps (rows_of bytes) 1 so_far.Start tt))

pub day_keeps : (bytes : List ℕ) (file : DayParts) → day_of bytes ≡ Ok file → IsDayFile file
day_keeps bytes file e = (day_kept bytes file e).file

pub day_bounded : DayFilesAreBounded
day_bounded bytes file e = (day_kept bytes file e).bounds

-- so does the file that a call tells
pub told_keeps : (bytes : List ℕ) (told : Result DayParts FileRefusal) → Tells told (day_of bytes) → IfOk told (λ file. IsDayFile file)
told_keeps bytes (Ok file) e = day_keeps bytes file e
told_keeps bytes (Err refusal) e = tt
