-- How many of the records of a day file are commands, and what a search for one of them finds.
use Rattle.std.proofs.Common.{◌≡◌, ◌∙◌, ◌<◌, ◌≤◌, ◌+◌, ◌∷◌, ◌++◌, [], ℕ, zero, suc, Bool, true, false, cond, ne_eqb, List, length, filter, take, Option, Some, None, Result, Ok, Err, refl, sym, ap, subst, arith, length-append}
use Rattle.std.specs.Prelude.{◌-◌, if◌then◌else◌, nat_lt}
use mathlib.Core.Logic.{dite}
use native.Mathlib.Decide.{ℕ_discrete}
use Rattle.road_graph.specs.Roads.{Roads}
use Rattle.trip_analysis.specs.declared.base.Truck.{Truck}
use Rattle.day_text.specs.Causes.{◌>>=◌, Tells, limit, or_bad}
use Rattle.day_text.specs.CommandRows.{IsRowOfCommand, RowsOfCommandsAreOne, commands_in, is_command, is_command_kind}
use Rattle.day_text.specs.CommandSearch.{search_on, searched}
use Rattle.day_text.specs.Commands.{apply_of, post_of, set_day_of, show_of, surrender_of, with_order}
use Rattle.day_text.specs.Days.{DayParts, added, come_to, day_of, ended_day, fresh_day, judge_day, judge_kind, on_actors, on_fleet, on_orders, on_roads, opening_of}
use Rattle.day_text.specs.Fields.{field_of}
use Rattle.day_text.specs.Fleets.{actors_of, fleet_of}
use Rattle.day_text.specs.Forms.{Day as day_form, said_in}
use Rattle.day_text.specs.Kinds.{kind_of}
use Rattle.day_text.specs.Records.{Row, go_on, is_record, judge_record, judged, rows_of}
use Rattle.day_text.specs.Roads.{with_limit_of, with_node_of, with_segment_of, with_span_of}
use Rattle.day_text.specs.declared.command_rows.CommandSearch.{CommandSearch}
use Rattle.day_text.specs.declared.day_so_far.DaySoFar.{DaySoFar}
use Rattle.day_text.specs.declared.kind.RecordKind.{RecordKind}
use Rattle.day_text.specs.declared.kind.RecordKind.TheVariants.{Actor, Apply, Day, End, Limit, Node, Post, Segment, SetDay, Show, Span, Surrender, Truck as truck_kind}
use Rattle.day_text.specs.declared.orders.Order.{Order}
use Rattle.day_text.specs.declared.progress.DayProgress.{DayProgress}
use Rattle.day_text.specs.declared.progress.DayProgress.TheVariants as so_far
use Rattle.day_text.specs.declared.refusal.Cause.{Cause}
use Rattle.day_text.specs.declared.refusal.Cause.TheVariants as why
use Rattle.day_text.specs.declared.refusal.FileRefusal.{FileRefusal}
use Rattle.day_text.specs.declared.refusal.FileRefusal.TheVariants as file
use Rattle.day_text.specs.declared.refusal.Kind.TheVariants as kind
use Rattle.day_text.specs.declared.refusal.RecordCause.TheVariants as bad
use Rattle.day_text.proofs.Steps.{Gives, gives, refuses, then_gives}

-- how many commands a record is
abbrev one_if : Bool → ℕ
one_if true = 1
one_if false = 0

-- the commands of what was said so far
abbrev orders_in : DayProgress → List Order
orders_in so_far.Start = []
orders_in (so_far.Open d) = d.orders
orders_in (so_far.Ended d) = d.orders

-- so many commands more
abbrev Adds : ℕ → DaySoFar → DaySoFar → Type 0
Adds count old new = length new.orders ≡ length old.orders + count

roads_add : (d : DaySoFar) (next : Result Roads Cause) → Gives (Adds 0 d) (on_roads d next)
roads_add d next = then_gives {r = next} (λ roads e. gives (Adds 0 d) (record d { network = roads }) (omega arith))

fleet_adds : (d : DaySoFar) (next : Result (List Truck) Cause) → Gives (Adds 0 d) (on_fleet d next)
fleet_adds d next = then_gives {r = next} (λ fleet e. gives (Adds 0 d) (record d { fleet = fleet }) (omega arith))

actors_add : (d : DaySoFar) (next : Result (List (List ℕ)) Cause) → Gives (Adds 0 d) (on_actors d next)
actors_add d next = then_gives {r = next} (λ actors e. gives (Adds 0 d) (record d { actors = actors }) (omega arith))

orders_add : (d : DaySoFar) (next : Result Order Cause) → Gives (Adds 1 d) (on_orders d next)
orders_add d next = then_gives {r = next} (λ order e.
    then_gives {r = with_order d.orders order} (λ orders added.
    gives (Adds 1 d) (record d { orders = orders }) (longer order orders added)))
  where
    longer : (order : Order) (orders : List Order) → with_order d.orders order ≡ Ok orders → length orders ≡ length d.orders + 1
    longer order orders added =
        (then_gives {P = λ (os : List Order). length os ≡ length d.orders + 1} {r = limit (nat_lt (length d.orders) 4096) kind.Commands} (λ a room.
        gives (λ (os : List Order). length os ≡ length d.orders + 1) (d.orders ++ order ∷ []) (length-append d.orders (order ∷ [])))).ok orders added

-- a day is the first thing that is said
opening_adds : (fields : Row) → Gives (Adds 0 (fresh_day [])) (opening_of fields)
unfolding opening_of
opening_adds fields = then_gives {r = said_in (day_form ∷ []) fields} (λ said e.
    then_gives {r = or_bad (bad.Range 2) said.0} (λ day there. gives (Adds 0 (fresh_day [])) (fresh_day day) refl))

end_adds : (d : DaySoFar) (fields : Row) → Gives (Adds 0 d) (added d End fields)
end_adds d fields = then_gives {r = said_in [] fields} (λ nothing e. gives (Adds 0 d) d (omega arith))

-- what a record behind the day adds
later_adds : (d : DaySoFar) (kind : RecordKind) (fields : Row) → Gives (λ (p : DayProgress). length (orders_in p) ≡ length d.orders + one_if (is_command_kind (Some kind))) (judge_kind (so_far.Open d) kind fields)
later_adds d Day fields = refuses _ (why.Bad bad.Order)
later_adds d Node fields = then_gives {r = on_roads d (with_node_of d.network fields)} (λ n e. gives _ (so_far.Open n) ((roads_add d (with_node_of d.network fields)).ok n e))
later_adds d Segment fields = then_gives {r = on_roads d (with_segment_of d.network fields)} (λ n e. gives _ (so_far.Open n) ((roads_add d (with_segment_of d.network fields)).ok n e))
later_adds d Limit fields = then_gives {r = on_roads d (with_limit_of d.network fields)} (λ n e. gives _ (so_far.Open n) ((roads_add d (with_limit_of d.network fields)).ok n e))
later_adds d Span fields = then_gives {r = on_roads d (with_span_of d.network fields)} (λ n e. gives _ (so_far.Open n) ((roads_add d (with_span_of d.network fields)).ok n e))
later_adds d truck_kind fields = then_gives {r = on_fleet d (fleet_of d.fleet fields)} (λ n e. gives _ (so_far.Open n) ((fleet_adds d (fleet_of d.fleet fields)).ok n e))
later_adds d Actor fields = then_gives {r = on_actors d (actors_of d.actors fields)} (λ n e. gives _ (so_far.Open n) ((actors_add d (actors_of d.actors fields)).ok n e))
later_adds d Apply fields = then_gives {r = on_orders d (apply_of d fields)} (λ n e. gives _ (so_far.Open n) ((orders_add d (apply_of d fields)).ok n e))
later_adds d Post fields = then_gives {r = on_orders d (post_of d fields)} (λ n e. gives _ (so_far.Open n) ((orders_add d (post_of d fields)).ok n e))
later_adds d SetDay fields = then_gives {r = on_orders d (set_day_of d fields)} (λ n e. gives _ (so_far.Open n) ((orders_add d (set_day_of d fields)).ok n e))
later_adds d Surrender fields = then_gives {r = on_orders d (surrender_of d fields)} (λ n e. gives _ (so_far.Open n) ((orders_add d (surrender_of d fields)).ok n e))
later_adds d Show fields = then_gives {r = on_orders d (show_of d fields)} (λ n e. gives _ (so_far.Open n) ((orders_add d (show_of d fields)).ok n e))
later_adds d End fields = then_gives {r = added d End fields} (λ n e. gives _ (so_far.Ended n) ((end_adds d fields).ok n e))

-- so many commands there are, where a record of this kind is taken
abbrev AddsKind : DayProgress → Option RecordKind → DayProgress → Type 0
AddsKind p kind q = length (orders_in q) ≡ length (orders_in p) + one_if (is_command_kind kind)

kind_adds : (p : DayProgress) (kind : RecordKind) (fields : Row) → Gives (AddsKind p (Some kind)) (judge_kind p kind fields)
kind_adds so_far.Start Day fields = then_gives {r = opening_of fields} (λ d e. gives (AddsKind so_far.Start (Some Day)) (so_far.Open d) ((opening_adds fields).ok d e))
kind_adds so_far.Start Node fields = refuses _ (why.Bad bad.Order)
kind_adds so_far.Start Segment fields = refuses _ (why.Bad bad.Order)
kind_adds so_far.Start Limit fields = refuses _ (why.Bad bad.Order)
kind_adds so_far.Start Span fields = refuses _ (why.Bad bad.Order)
kind_adds so_far.Start truck_kind fields = refuses _ (why.Bad bad.Order)
kind_adds so_far.Start Actor fields = refuses _ (why.Bad bad.Order)
kind_adds so_far.Start Apply fields = refuses _ (why.Bad bad.Order)
kind_adds so_far.Start Post fields = refuses _ (why.Bad bad.Order)
kind_adds so_far.Start SetDay fields = refuses _ (why.Bad bad.Order)
kind_adds so_far.Start Surrender fields = refuses _ (why.Bad bad.Order)
kind_adds so_far.Start Show fields = refuses _ (why.Bad bad.Order)
kind_adds so_far.Start End fields = refuses _ (why.Bad bad.Order)
kind_adds (so_far.Open d) kind fields = later_adds d kind fields
kind_adds (so_far.Ended d) kind fields = refuses _ (why.Bad bad.Order)

day_adds : (p : DayProgress) (fields : Row) → Gives (AddsKind p (kind_of (field_of fields 0))) (judge_day p fields)
day_adds p fields = by (kind_of (field_of fields 0))
  where
    by : (o : Option RecordKind) → Gives (AddsKind p o) (or_bad bad.Kind o >>= (λ kind. judge_kind p kind fields))
    by None = refuses _ (why.Bad bad.Kind)
    by (Some kind) = kind_adds p kind fields

-- what a record leads to that is taken: it is one of eight fields, and so many commands there are then
record IsTaken (p q : DayProgress) (fields : Row) : Type 0 where
  is : is_record fields ≡ true
  adds : length (orders_in q) ≡ length (orders_in p) + one_if (is_command fields)

record_taken : (p q : DayProgress) (fields : Row) → judge_record judge_day p fields ≡ Ok q → IsTaken p q fields
record_taken p q fields h = by (is_record fields) refl h
  where
    by : (b : Bool) → is_record fields ≡ b → cond b (judge_day p fields) (Err (why.Bad bad.Fields)) ≡ Ok q → IsTaken p q fields
    by true is h = record { is = is; adds = (day_adds p fields).ok q h }
    by false is h = cc

-- the commands among a record and others
with_first : (fields : Row) (rows : List Row) → commands_in (fields ∷ rows) ≡ one_if (is_command fields) + commands_in rows
with_first fields rows = by (is_command fields)
  where
    by : (b : Bool) → length (cond b (fields ∷ filter is_command rows) (filter is_command rows)) ≡ one_if b + commands_in rows
    by true = omega arith
    by false = omega arith

-- What a search for a command leads to, from where so many others are to come first: the row in which it stands, behind those
-- of the records that were read; it does not come to the end where there are more commands.
abbrev Finds : ℕ → ℕ → List Row → Result (ℕ × CommandSearch) (ℕ × Cause) → Type 0
Finds left first rows (Ok end) = commands_in rows ≤ left
Finds left first rows (Err (row, cause)) = (n : ℕ) × (row ≡ first + n) × (commands_in (take n rows) ≡ left) × (commands_in (take (suc n) rows) ≡ left + 1)

-- a search goes on behind a record
module _ (left first : ℕ) (fields : Row) (rows : List Row) where
  goes_on : (before : ℕ) → left ≡ before + one_if (is_command fields) → (r : Result (ℕ × CommandSearch) (ℕ × Cause)) → Finds before (first + 1) rows r → Finds left first (fields ∷ rows) r
  goes_on before is (Ok end) few = omega (arith, few, is, with_first fields rows)
  goes_on before is (Err (row, cause)) (n, at, front, more) =
      let one : commands_in (take (suc n) (fields ∷ rows)) ≡ one_if (is_command fields) + commands_in (take n rows) = with_first fields (take n rows) in
      let two : commands_in (take (suc (suc n)) (fields ∷ rows)) ≡ one_if (is_command fields) + commands_in (take (suc n) rows) = with_first fields (take (suc n) rows) in
      (suc n, omega (arith, at), omega (arith, one, front, is), omega (arith, two, more, is))

  found_here : (cause : Cause) → is_command fields ≡ true → left ≡ 0 → Finds left first (fields ∷ rows) (Err (first, cause))
  found_here cause is none =
      let here : one_if (is_command fields) ≡ 1 = ap one_if is in
      (0, omega arith, omega (arith, none), omega (arith, none, here, with_first fields []))

-- a command that others are to come behind
searched_more : (l : ℕ) → searched true (suc l) ≡ Ok (record { left = l })
searched_more l =
    let less : suc l - 1 ≡ l = omega arith in
    ap (λ (b : Bool). if b then Err (why.Bad bad.Kind) else Ok (record { left = suc l - 1 })) (ne_eqb (suc l) 0 (λ e. omega (arith, e)))
    ∙ ap (λ (k : ℕ). Ok (record { left = k })) less

-- so it does whatever stands in front of records that are all taken
abbrev Later : List Row → ℕ → ℕ → ℕ × DayProgress → Type 0
Later rows first row end =
    (left : ℕ) (p : DayProgress) → judged judge_day row p rows ≡ Ok end → Finds left first rows (judged search_on first (record { left = left }) rows)

-- of records that are all taken, a search finds its command where there is one
search_finds : (rows : List Row) (first row left : ℕ) (p : DayProgress) (end : ℕ × DayProgress) → judged judge_day row p rows ≡ Ok end
    → Finds left first rows (judged search_on first (record { left = left }) rows)
search_finds [] first row left p end h = omega arith
search_finds (fields ∷ rows) first row left p end h = by (judge_record judge_day p fields) refl h (λ l next rest. search_finds rows (first + 1) (row + 1) l next end rest)
  where
    on : Later rows (first + 1) (row + 1) end → (next : DayProgress) → judged judge_day (row + 1) next rows ≡ Ok end → (b : Bool) → is_command fields ≡ b → (l : ℕ) → left ≡ l
        → Finds left first (fields ∷ rows) (go_on first (searched b l) (λ s. judged search_on (first + 1) s rows))
    on later next rest false is l same =
        goes_on left first fields rows left (let none : one_if (is_command fields) ≡ 0 = ap one_if is in omega (arith, none)) (judged search_on (first + 1) (record { left = l }) rows)
        (subst (λ (k : ℕ). Finds left (first + 1) rows (judged search_on (first + 1) (record { left = k }) rows)) same (later left next rest))
    on later next rest true is zero same = found_here left first fields rows (why.Bad bad.Kind) is same
    on later next rest true is (suc l) same =
        subst (λ (r : Result CommandSearch Cause). Finds left first (fields ∷ rows) (go_on first r (λ s. judged search_on (first + 1) s rows))) (sym (searched_more l))
        (goes_on left first fields rows l (let some : one_if (is_command fields) ≡ 1 = ap one_if is in omega (arith, some, same)) (judged search_on (first + 1) (record { left = l }) rows)
        (later l next rest))

    by : (r : Result DayProgress Cause) → judge_record judge_day p fields ≡ r → go_on row r (λ next. judged judge_day (row + 1) next rows) ≡ Ok end → Later rows (first + 1) (row + 1) end
        → Finds left first (fields ∷ rows) (judged search_on first (record { left = left }) (fields ∷ rows))
    by (Err cause) is h later = cc
    by (Ok next) is h later =
        let taken = record_taken p next fields is in
        subst (λ (b : Bool). Finds left first (fields ∷ rows) (go_on first (cond b (search_on (record { left = left }) fields) (Err (why.Bad bad.Fields))) (λ s. judged search_on (first + 1) s rows))) (sym taken.is)
        (on later next h (is_command fields) refl left refl)

-- so many commands all records have that are taken
all_add : (rows : List Row) (row : ℕ) (p : DayProgress) (end : ℕ × DayProgress) → judged judge_day row p rows ≡ Ok end → length (orders_in end.1) ≡ length (orders_in p) + commands_in rows
all_add [] row p end h = let same : p ≡ end.1 = cc in omega (arith, ap (λ (q : DayProgress). length (orders_in q)) same)
all_add (fields ∷ rows) row p end h = by (judge_record judge_day p fields) refl h (λ next rest. all_add rows (row + 1) next end rest)
  where
    by : (r : Result DayProgress Cause) → judge_record judge_day p fields ≡ r → go_on row r (λ next. judged judge_day (row + 1) next rows) ≡ Ok end
        → ((next : DayProgress) → judged judge_day (row + 1) next rows ≡ Ok end → length (orders_in end.1) ≡ length (orders_in next) + commands_in rows)
        → length (orders_in end.1) ≡ length (orders_in p) + commands_in (fields ∷ rows)
    by (Err cause) is h later = cc
    by (Ok next) is h later = omega (arith, (record_taken p next fields is).adds, later next h, with_first fields rows)

-- the records of a day file were all taken, and its commands are counted
record AreTaken (bytes : List ℕ) (f : DayParts) : Type 0 where
  end : ℕ × DayProgress
  judged_so : judged judge_day 1 so_far.Start (rows_of bytes) ≡ Ok end
  commands : length f.commands ≡ commands_in (rows_of bytes)

file_taken : (bytes : List ℕ) (f : DayParts) → day_of bytes ≡ Ok f → AreTaken bytes f
file_taken bytes f h = by (judged judge_day 1 so_far.Start (rows_of bytes)) refl h
  where
    by : (r : Result (ℕ × DayProgress) (ℕ × Cause)) → judged judge_day 1 so_far.Start (rows_of bytes) ≡ r → (r >>= ended_day) ≡ Ok f → AreTaken bytes f
    by (Err refused) is h = cc
    by (Ok (row, so_far.Start)) is h = cc
    by (Ok (row, so_far.Open d)) is h = cc
    by (Ok (row, so_far.Ended d)) is h =
        let same : d.orders ≡ f.commands = cc in
        record { end = (row, so_far.Ended d); judged_so = is; commands = omega (arith, ap length same, all_add (rows_of bytes) 1 so_far.Start (row, so_far.Ended d) is) }

-- so a search for one of its commands finds the row of it
module _ (bytes : List ℕ) (f : DayParts) (read : day_of bytes ≡ Ok f) (place : ℕ) (there : place < length f.commands) where
  all : AreTaken bytes f
  all = file_taken bytes f read

  finds : Finds place 1 (rows_of bytes) (judged search_on 1 (record { left = place }) (rows_of bytes))
  finds = search_finds (rows_of bytes) 1 1 place so_far.Start all.end all.judged_so

  pub row_told : (r : FileRefusal) (row : ℕ) (cause : Cause) → r ≡ file.Refused row cause → Tells {T = ℕ × CommandSearch} (Err r) (judged search_on 1 (record { left = place }) (rows_of bytes)) → IsRowOfCommand (rows_of bytes) place row
  row_told r row cause is told =
      let refused : judged search_on 1 (record { left = place }) (rows_of bytes) ≡ Err (row, cause) =
      subst (λ (q : FileRefusal). Tells {T = ℕ × CommandSearch} (Err q) (judged search_on 1 (record { left = place }) (rows_of bytes))) is told in
      let (n, at, front, more) = subst (Finds place 1 (rows_of bytes)) refused finds in
      let less : row - 1 ≡ n = omega (arith, at) in
      let behind : row ≡ suc n = omega (arith, at) in
      record {
        before = subst (λ (k : ℕ). commands_in (take k (rows_of bytes)) ≡ place) (sym less) front;
        with_it = subst (λ (k : ℕ). commands_in (take k (rows_of bytes)) ≡ place + 1) (sym behind) more;
      }

  pub never_ends : (end : ℕ × CommandSearch) → Tells (Ok end) (judged search_on 1 (record { left = place }) (rows_of bytes)) → ⊥
  never_ends end told = let few : commands_in (rows_of bytes) ≤ place = subst (Finds place 1 (rows_of bytes)) told finds in omega (arith, few, there, all.commands)

-- more records have no fewer commands
more_commands : (rows : List Row) (a b : ℕ) → a ≤ b → commands_in (take a rows) ≤ commands_in (take b rows)
more_commands rows zero b le = omega arith
more_commands [] (suc a) b le = omega arith
more_commands (fields ∷ rows) (suc a) zero le = absurd (omega (arith, le))
more_commands (fields ∷ rows) (suc a) (suc b) le = omega (arith, with_first fields (take a rows), with_first fields (take b rows), more_commands rows a b (omega (arith, le)))

not_before : (rows : List Row) (place row other : ℕ) → IsRowOfCommand rows place row → IsRowOfCommand rows place other → row < other → ⊥
not_before rows place row other a b less = omega (arith, a.with_it, b.before, more_commands rows row (other - 1) (omega (arith, less)))

-- a command stands in one row
pub rows_one : RowsOfCommandsAreOne
rows_one rows place row other a b = dite (ℕ_discrete other row)
    (λ same. same)
    (λ apart. absurd (grind (arith, not_before rows place row other a b, not_before rows place other row b a, apart)))
