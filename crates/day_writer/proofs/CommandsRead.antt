-- The commands that are written are read.
use Rattle.std.proofs.Common.{◌≡◌, ◌<◌, ◌≤◌, ◌∷◌, ◌++◌, [], ℕ, List, Some, Bool, true, get_or, length, map, refl, subst, arith}
use Rattle.std.specs.Prelude.{◌&&◌, nat_lt}
use Rattle.std.specs.Cmp.{first_so, second_so}
use Rattle.std.proofs.lemmas.Bool.{leb-true, lt-ltb, ltb-true}
use Rattle.std.proofs.lemmas.List.Elements.{All-get_or}
use Rattle.std.proofs.lemmas.Option.{slice_get-get_or}
use Rattle.csv.specs.Records.{field_at}
use Rattle.road_graph.specs.Ranges.{is_limit, is_rating}
use Rattle.road_graph.specs.Roads.{no_segment, no_span, span_names, number_of as number_named}
use Rattle.road_graph.specs.Words.{what_word}
use Rattle.road_graph.specs.declared.segment.Span.{Span}
use Rattle.road_graph.specs.declared.values.What.{What}
use Rattle.road_graph.specs.declared.values.What.TheVariants as what
use Rattle.road_graph.proofs.Places.{get-map}
use Rattle.restriction_log.specs.Changes.{change_of, flag, replaced_by, takes}
use Rattle.restriction_log.specs.declared.change.Change.{Change}
use Rattle.restriction_log.specs.declared.change.Change.TheVariants as change
use Rattle.restriction_log.specs.declared.change.Replaced.TheVariants as replaced
use Rattle.permit_days.specs.Days.{is_day_text}
use Rattle.trip_analysis.specs.Applications.{Sound}
use Rattle.trip_analysis.specs.Bases.{no_truck}
use Rattle.trip_analysis.specs.declared.application.Application.{Application}
use Rattle.trip_analysis.specs.declared.base.Truck.{Truck}
use Rattle.trip_analysis.proofs.AskedRoutes.{sound_taken}
use Rattle.office_words.specs.Commands.{MayCarryOut}
use Rattle.office_words.specs.declared.entry.Command.{Command}
use Rattle.office_words.specs.declared.entry.Command.TheVariants as command
use Rattle.day_text.specs.Bounds.{IsCommandWithin}
use Rattle.day_text.specs.Commands.{apply_fields_of, asked_permit_of, post_of, posting_of, resolved_of, set_day_of}
use Rattle.day_text.specs.Days.{DayParts}
use Rattle.day_text.specs.Fields.{posted_of}
use Rattle.day_text.specs.Fleets.{truck_names}
use Rattle.day_text.specs.Named.{IsName}
use Rattle.day_text.specs.Records.{Row}
use Rattle.day_text.specs.declared.orders.Order.{Order}
use Rattle.day_text.specs.declared.posted.Posted.TheVariants as posted
use Rattle.day_writer.specs.Orders.{application_row, command_row, name_at, order_row, posting_row}
use Rattle.day_writer.specs.Writable.{IsWritable}
use Rattle.day_writer.proofs.AskedRead.{asked_read}
use Rattle.day_writer.proofs.Judge.{DaySoFar}
use Rattle.day_writer.proofs.Leading.{Goes, goes_map, goes_one}
use Rattle.day_writer.proofs.Leaves.{day_ok, day_plain, name_ok, name_plain, number_ok}
use Rattle.day_writer.proofs.LimitsRead.{flag_back, limit_small, word_plain}
use Rattle.day_writer.proofs.Lists.{all_here, few_here, found_at, found_within, named_at}
use Rattle.day_writer.proofs.Plain.{number_plain}
use Rattle.day_writer.proofs.RoadsRead.{node_good}
use Rattle.day_writer.proofs.SpansRead.{segment_found, segment_good}
use Rattle.day_writer.proofs.TrafficRead.{on_roads}

-- the word of a limit that is posted
posted_read : (w : What) → posted_of (what_word w) ≡ Some (posted.Limit w)
posted_read what.Closed = refl
posted_read what.Height = refl
posted_read what.Width = refl
posted_read what.Length = refl
posted_read what.Gross = refl
posted_read what.Allowance = refl
posted_read what.Tridem = refl

module _ (file : DayParts) (h : IsWritable file) where
  -- what stands where so many commands were read
  abbrev so_far_orders : List Order → List Order → DaySoFar
  so_far_orders front rest = record (on_roads file h) { fleet = file.base.fleet; actors = file.actors; orders = front }

  -- an order may be the next one
  record IsNext (front : List Order) (actor : ℕ) : Type 0 where
    room : length front < 4096
    named : IsName (name_at file.actors actor)
    known : number_named (name_at file.actors actor) file.actors ≡ Some actor

  -- the record of a command leads to where it is the last one
  abbrev Reads : List Order → ℕ → Command → Row → Type 0
  Reads front actor c fields = Goes (so_far_orders front []) (fields ∷ []) (so_far_orders (front ++ (record { actor = actor; command = c } ∷ [])) [])

  day_reads : (front : List Order) (actor : ℕ) (day : List ℕ) → IsNext front actor → is_day_text day ≡ true → Reads front actor (command.Day day) (command_row file.base (name_at file.actors actor) (command.Day day))
  unfolding set_day_of field_at
  day_reads front actor day n good =
      let name = name_at file.actors actor in
      goes_one (so_far_orders front []) (so_far_orders (front ++ (record { actor = actor; command = command.Day day } ∷ [])) []) (command_row file.base name (command.Day day))
      (refl, (refl, (name_plain name n.named, (day_plain day good, (refl, (refl, (refl, (refl, (refl, tt)))))))))
      (rw (name_ok name n.named, day_ok day good, n.known, lt-ltb (length front) 4096 n.room) refl)

  surrender_reads : (front : List Order) (actor number : ℕ) → IsNext front actor → number ≤ 999999999 → Reads front actor (command.Surrender number) (command_row file.base (name_at file.actors actor) (command.Surrender number))
  unfolding asked_permit_of field_at
  surrender_reads front actor number n few =
      let name = name_at file.actors actor in
      goes_one (so_far_orders front []) (so_far_orders (front ++ (record { actor = actor; command = command.Surrender number } ∷ [])) []) (command_row file.base name (command.Surrender number))
      (refl, (refl, (name_plain name n.named, (number_plain number (omega arith), (refl, (refl, (refl, (refl, (refl, tt)))))))))
      (rw (name_ok name n.named, number_ok number (omega arith), n.known, lt-ltb (length front) 4096 n.room) refl)

  show_reads : (front : List Order) (actor number : ℕ) → IsNext front actor → number ≤ 999999999 → Reads front actor (command.Show number) (command_row file.base (name_at file.actors actor) (command.Show number))
  unfolding asked_permit_of field_at
  show_reads front actor number n few =
      let name = name_at file.actors actor in
      goes_one (so_far_orders front []) (so_far_orders (front ++ (record { actor = actor; command = command.Show number } ∷ [])) []) (command_row file.base name (command.Show number))
      (refl, (refl, (name_plain name n.named, (number_plain number (omega arith), (refl, (refl, (refl, (refl, (refl, tt)))))))))
      (rw (name_ok name n.named, number_ok number (omega arith), n.known, lt-ltb (length front) 4096 n.room) refl)

  -- a posting of a limit
  limit_reads : (front : List Order) (actor segment : ℕ) (w : What) (value : ℕ) → IsNext front actor → segment < length file.base.roads.segments → is_limit w value ≡ true
      → Reads front actor (command.Post (change_of segment w value)) (posting_row file.base.roads (name_at file.actors actor) (replaced.Limit segment w value))
  unfolding post_of posting_of field_at
  limit_reads front actor segment w value n there fits =
      let name = name_at file.actors actor in
      let item = (get_or file.base.roads.segments segment no_segment).name in
      let good = segment_good file h segment there in
      let few = limit_small w value fits in
      goes_one (so_far_orders front []) (so_far_orders (front ++ (record { actor = actor; command = command.Post (change_of segment w value) } ∷ [])) []) (posting_row file.base.roads name (replaced.Limit segment w value))
      (refl, (refl, (name_plain name n.named, (name_plain item good, (word_plain w, (number_plain value (omega arith), (refl, (refl, (refl, tt)))))))))
      (rw (name_ok name n.named, name_ok item good, posted_read w, number_ok value (omega arith), n.known, segment_found file h segment there, fits, lt-ltb (length front) 4096 n.room) refl)

  span_good : (i : ℕ) → i < length file.base.roads.spans → IsName (get_or file.base.roads.spans i no_span).name
  span_good i low = named_at IsName (λ (t : Span). t.name) file.base.roads.spans i no_span low h.names.spans

  span_found : (i : ℕ) → i < length file.base.roads.spans → number_named (get_or file.base.roads.spans i no_span).name (span_names file.base.roads.spans) ≡ Some i
  span_found i low =
      found_at (span_names file.base.roads.spans) i (get_or file.base.roads.spans i no_span).name h.bounds.roads.span_names
      (get-map (λ (t : Span). t.name) file.base.roads.spans i (get_or file.base.roads.spans i no_span) (slice_get-get_or file.base.roads.spans i no_span low))

  -- a posting of a rating
  rating_reads : (front : List Order) (actor span permille : ℕ) → IsNext front actor → span < length file.base.roads.spans → is_rating permille ≡ true
      → Reads front actor (command.Post (change.Rating span permille)) (posting_row file.base.roads (name_at file.actors actor) (replaced.Rating span permille))
  unfolding post_of posting_of field_at
  rating_reads front actor span permille n there fits =
      let name = name_at file.actors actor in
      let item = (get_or file.base.roads.spans span no_span).name in
      let good = span_good span there in
      let few : permille ≤ 100000 = leb-true permille 100000 fits in
      goes_one (so_far_orders front []) (so_far_orders (front ++ (record { actor = actor; command = command.Post (change.Rating span permille) } ∷ [])) []) (posting_row file.base.roads name (replaced.Rating span permille))
      (refl, (refl, (name_plain name n.named, (name_plain item good, (refl, (number_plain permille (omega arith), (refl, (refl, (refl, tt)))))))))
      (rw (name_ok name n.named, name_ok item good, number_ok permille (omega arith), n.known, span_found span there, fits, lt-ltb (length front) 4096 n.room) refl)

  -- a posting of any limit, by what the roads take
  of_limit : (front : List Order) (actor segment : ℕ) (w : What) (value : ℕ) → IsNext front actor → (nat_lt segment (length file.base.roads.segments) && is_limit w value) ≡ true
      → Reads front actor (command.Post (change_of segment w value)) (posting_row file.base.roads (name_at file.actors actor) (replaced.Limit segment w value))
  of_limit front actor segment w value n taken =
      limit_reads front actor segment w value n (ltb-true segment (length file.base.roads.segments) (first_so (nat_lt segment (length file.base.roads.segments)) (is_limit w value) taken))
      (second_so (nat_lt segment (length file.base.roads.segments)) (is_limit w value) taken)

  post_reads : (front : List Order) (actor : ℕ) (c : Change) → IsNext front actor → takes file.base.roads c ≡ true → Reads front actor (command.Post c) (posting_row file.base.roads (name_at file.actors actor) (replaced_by c))
  post_reads front actor (change.Closed segment closed) n taken =
      subst (λ (b : Bool). Reads front actor (command.Post (change.Closed segment b)) (posting_row file.base.roads (name_at file.actors actor) (replaced.Limit segment what.Closed (flag closed)))) (flag_back closed)
      (of_limit front actor segment what.Closed (flag closed) n taken)
  post_reads front actor (change.Height segment inches) n taken = of_limit front actor segment what.Height inches n taken
  post_reads front actor (change.Width segment inches) n taken = of_limit front actor segment what.Width inches n taken
  post_reads front actor (change.Length segment inches) n taken = of_limit front actor segment what.Length inches n taken
  post_reads front actor (change.Gross segment pounds) n taken = of_limit front actor segment what.Gross pounds n taken
  post_reads front actor (change.Allowance segment permille) n taken = of_limit front actor segment what.Allowance permille n taken
  post_reads front actor (change.Tridem segment pounds) n taken = of_limit front actor segment what.Tridem pounds n taken
  post_reads front actor (change.Rating span permille) n taken =
      rating_reads front actor span permille n (ltb-true span (length file.base.roads.spans) (first_so (nat_lt span (length file.base.roads.spans)) (is_rating permille) taken))
      (second_so (nat_lt span (length file.base.roads.spans)) (is_rating permille) taken)

  truck_good : (i : ℕ) → i < length file.base.fleet → IsName (get_or file.base.fleet i no_truck).name
  truck_good i low = named_at IsName (λ (t : Truck). t.name) file.base.fleet i no_truck low h.names.trucks

  truck_found : (i : ℕ) → i < length file.base.fleet → number_named (get_or file.base.fleet i no_truck).name (truck_names file.base.fleet) ≡ Some i
  truck_found i low =
      found_at (truck_names file.base.fleet) i (get_or file.base.fleet i no_truck).name h.names.each_truck
      (get-map (λ (t : Truck). t.name) file.base.fleet i (get_or file.base.fleet i no_truck) (slice_get-get_or file.base.fleet i no_truck low))

  apply_reads : (front : List Order) (actor : ℕ) (a : Application) → IsNext front actor → Sound file.base a → is_day_text a.first ≡ true → is_day_text a.last ≡ true
      → Reads front actor (command.Apply a) (application_row file.base (name_at file.actors actor) a)
  unfolding apply_fields_of resolved_of field_at
  apply_reads front actor a n sound first last =
      let roads = file.base.roads in
      let name = name_at file.actors actor in
      let truck = (get_or file.base.fleet a.truck no_truck).name in
      let from = name_at roads.nodes a.from in
      let to = name_at roads.nodes a.to in
      let asked = asked_read file h a.from a.to sound.apart a.asked sound.routes sound.asked in
      let truck_is = truck_good a.truck sound.truck in
      let from_is = node_good file h a.from sound.from in
      let to_is = node_good file h a.to sound.to in
      goes_one (so_far_orders front []) (so_far_orders (front ++ (record { actor = actor; command = command.Apply a } ∷ [])) []) (application_row file.base name a)
      (refl, (refl, (name_plain name n.named, (name_plain truck truck_is, (name_plain from from_is, (name_plain to to_is, (asked.plain, (day_plain a.first first, (day_plain a.last last, tt)))))))))
      (rw (name_ok name n.named, name_ok truck truck_is, name_ok from from_is, name_ok to to_is, asked.read, day_ok a.first first, day_ok a.last last, n.known, truck_found a.truck sound.truck, found_within roads.nodes a.from h.bounds.roads.node_names sound.from, found_within roads.nodes a.to h.bounds.roads.node_names sound.to, asked.asks, sound_taken file.base a sound, lt-ltb (length front) 4096 n.room) refl)

  -- any command
  command_reads : (front : List Order) (actor : ℕ) (c : Command) → IsNext front actor → MayCarryOut file.base c → IsCommandWithin file.base.roads c → Reads front actor c (command_row file.base (name_at file.actors actor) c)
  command_reads front actor (command.Apply a) n sound within = apply_reads front actor a n sound within.0 within.1
  command_reads front actor (command.Post c) n sound within = post_reads front actor c n within
  command_reads front actor (command.Day day) n sound within = day_reads front actor day n within
  command_reads front actor (command.Surrender number) n sound within = surrender_reads front actor number n within
  command_reads front actor (command.Show number) n sound within = show_reads front actor number n within

  order_goes : (front : List Order) (o : Order) (rest : List Order) → front ++ (o ∷ rest) ≡ file.commands
      → Goes (so_far_orders front (o ∷ rest)) (order_row file.base file.actors o ∷ []) (so_far_orders (front ++ (o ∷ [])) rest)
  order_goes front o rest e =
      let caller = all_here (λ (x : Order). x.actor < length file.actors) front o rest file.commands e h.kept.callers in
      let sound = all_here (λ (x : Order). MayCarryOut file.base x.command) front o rest file.commands e h.kept.sound in
      let within = all_here (λ (x : Order). IsCommandWithin file.base.roads x.command) front o rest file.commands e h.bounds.commands in
      let room : length front < length file.commands = few_here front o rest file.commands e in
      let most : length file.commands ≤ 4096 = h.kept.few_commands in
      command_reads front o.actor o.command (record {
        room = omega arith;
        named = All-get_or IsName file.actors o.actor [] caller h.names.actors;
        known = found_within file.actors o.actor h.names.each_actor caller;
      }) sound within

  pub commands_go : Goes (record (on_roads file h) { fleet = file.base.fleet; actors = file.actors }) (map (order_row file.base file.actors) file.commands) (record (on_roads file h) { fleet = file.base.fleet; actors = file.actors; orders = file.commands })
  commands_go = goes_map file.commands so_far_orders (order_row file.base file.actors) order_goes
