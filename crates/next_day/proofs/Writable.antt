-- The next day behind a legal history of all commands of a day file can be written.
use Rattle.std.proofs.Common.{◌≡◌, ◌<◌, ◌∷◌, [], ℕ, Bool, true, false, cond, List, get_or, length, map, refl, sym, subst, ◌∙◌, arith}
use Rattle.std.specs.Prelude.{Contains}
use Rattle.std.specs.List.{All}
use Rattle.std.proofs.lemmas.List.{get_or-map, length-map}
use Rattle.std.proofs.lemmas.List.Elements.{All-contains, All-map, All-weaker, Contains-append_right}
use Rattle.permit_days.specs.Days.{is_before, is_day_text}
use Rattle.axle_train.specs.Bounds.{IsTrain}
use Rattle.road_graph.specs.Roads.{IsRoads}
use Rattle.restriction_log.specs.Changes.{AreTaken}
use Rattle.restriction_log.specs.States.{AreOf}
use Rattle.restriction_log.proofs.Standing.{state_is_of}
use Rattle.trip_analysis.specs.Bases.{truck_of}
use Rattle.trip_analysis.specs.declared.base.Truck.{Truck}
use Rattle.office_words.specs.declared.entry.Entry.{Entry}
use Rattle.office_words.specs.declared.entry.Reply.TheVariants as reply
use Rattle.office_core.specs.Happened.{History}
use Rattle.office_core.specs.Machine.{IsLegal, Machine, machine_of, state_in}
use Rattle.office_core.specs.Offices.{entry}
use Rattle.office_core.proofs.Counts.{state_is}
use Rattle.office_core.proofs.DayAfter.{day_is}
use Rattle.office_core.proofs.Goods.{good_of}
use Rattle.day_text.specs.Bounds.{IsBounded, IsCommandWithin, IsSized}
use Rattle.day_text.specs.Days.{DayParts}
use Rattle.day_text.specs.Laws.{IsDayFile}
use Rattle.day_text.specs.Named.{HasCarrier, IsName, IsNamed}
use Rattle.day_text.specs.Fleets.{truck_names}
use Rattle.day_text.specs.declared.orders.Order.{Order}
use Rattle.office_words.specs.Commands.{MayCarryOut}
use Rattle.journal_whole.specs.Wholes.{IsWhole}
use Rattle.journal_whole.proofs.Asking.{whole_ordered}
use Rattle.journal_whole.proofs.Issuing.{whole_issued}
use Rattle.analyst_pool.proofs.Alone.{finished_one}
use Rattle.day_trial.specs.Serial.{SerialHistoriesAreOne}
use Rattle.day_trial.proofs.One.{history_one}
use Rattle.day_writer.specs.Writable.{IsWritable}
use Rattle.next_day.specs.Laws.{IsNextDay, NextDaysAreDays, NextDaysBegin}
use Rattle.next_day.specs.NextDay.{next_day, order_for, trucks_kept}
use Rattle.next_day.specs.Standing.{Standing, standing_in}
use Rattle.reroute_desk.specs.Replacements.{first_from}
use Rattle.next_day.proofs.Begins.{applications_sound}
use Rattle.next_day.proofs.Entries.{standing_few}
use Rattle.next_day.proofs.Facts.{IsSoundStanding, each_sound}
use Rattle.next_day.proofs.InForce.{base_is}
use Rattle.next_day.proofs.InRange.{in_range}
use Rattle.next_day.proofs.Kept.{kept_all, kept_distinct, kept_few}
use Rattle.next_day.proofs.RoadsStay.{names_stay, roads_stay, span_names_stay}
use Rattle.next_day.proofs.NextBegins.{days_are, firsts_are, next_begins, today_is}

module _ (only : Bool) (file : DayParts) (es : List Entry) (writable : IsWritable file) (legal : IsLegal file.base file.day es)
    (whole : IsWhole (length file.actors) file.commands es) where
  abbrev M : Machine
  M = machine_of file.base file.day es

  abbrev There : List Standing
  There = standing_in M es

  abbrev Kept : List ℕ
  Kept = trucks_kept only (length file.base.fleet) There

  today_is_day : is_day_text M.day ≡ true
  today_is_day = today_is whole_ordered file es writable legal whole

  days : All (λ p. (is_day_text p.trip.first ≡ true) × (is_day_text p.trip.last ≡ true)) There
  days = days_are whole_ordered file es writable legal whole

  -- the holder of each permit that stands is an actor
  holders : All (λ p. p.holder < length file.actors) There
  holders = All-weaker (IsSoundStanding file.base file.day es) (λ (p : Standing). p.holder < length file.actors)
      (λ p h. holder_of p h) There (each_sound file.base file.day es writable.bounds.roads writable.bounds.base.trains legal)
    where
      holder_of : (p : Standing) → IsSoundStanding file.base file.day es p → p.holder < length file.actors
      holder_of p h =
          let e = entry p.holder h.call (reply.Issued p.number h.version p.routes) in
          let there : Contains es e = subst (λ (l : History). Contains l e) (sym h.stands.1) (Contains-append_right h.front (e ∷ h.stands.0) e (0, omega arith, refl)) in
          All-contains (λ (x : Entry). x.caller < length file.actors) es e whole.callers there

  roads : IsRoads file.base.roads
  roads = writable.bounds.roads

  taken : AreTaken file.base.roads M.postings
  taken = (good_of file.base file.day es roads legal).taken

  pub of_roads : AreOf file.base.roads (state_in file.base M)
  of_roads = state_is_of file.base.roads M.postings roads taken

  first_is_day : (first : List ℕ) → is_day_text first ≡ true → is_day_text (first_from M.day first) ≡ true
  first_is_day first h = elim (is_before first M.day) as (λ b. is_day_text (cond b M.day first) ≡ true) [ true ↦ today_is_day | false ↦ h ]

  -- what holds of the application for each permit holds of each command
  each_order : (P : Order → Type 0) → All (λ p. P (order_for Kept M.day p)) There → All P (next_day only file es).commands
  each_order P all = All-map P (order_for Kept M.day) There all

  pub day_file : IsDayFile (next_day only file es)
  day_file = record {
    few_actors = writable.kept.few_actors;
    few_commands = omega (arith, length-map There (order_for Kept M.day), standing_few M es, whole_issued (length file.actors) file.commands es whole, writable.kept.few_commands);
    callers = each_order (λ (o : Order). o.actor < length file.actors) holders;
    sound = each_order (λ (o : Order). MayCarryOut (next_day only file es).base o.command)
        (applications_sound only file es roads writable.bounds.base.trains legal today_is_day (firsts_are whole_ordered file es writable legal whole));
  }

  pub bounded : IsBounded (next_day only file es)
  bounded = record {
    roads = roads_stay file.base.roads (state_in file.base M) roads of_roads (in_range file.base.roads M.postings roads taken);
    base = record {
      few = omega (arith, kept_few only file.base There, writable.bounds.base.few);
      trains = kept_all only file.base There (λ (t : Truck). IsTrain t.load.train) writable.bounds.base.trains;
    };
    sizes = kept_all only file.base There IsSized writable.bounds.sizes;
    day = today_is_day;
    commands = each_order (λ (o : Order). IsCommandWithin (next_day only file es).base.roads o.command)
        (λ k d within. let h = days k d within in (first_is_day (get_or There k d).trip.first h.0, h.1));
  }

  pub named : IsNamed (next_day only file es)
  named = record {
    nodes = writable.names.nodes;
    segments = subst (All IsName) (sym (names_stay file.base.roads (state_in file.base M))) writable.names.segments;
    spans = subst (All IsName) (sym (span_names_stay file.base.roads (state_in file.base M))) writable.names.spans;
    trucks = All-map IsName (λ (t : Truck). t.name) (map (truck_of file.base) Kept)
        (kept_all only file.base There (λ (t : Truck). IsName t.name) (λ k d within. name_of writable.names.trucks k d within));
    carriers = kept_all only file.base There HasCarrier writable.names.carriers;
    actors = writable.names.actors;
    each_truck = kept_distinct only file.base There writable.names.each_truck;
    each_actor = writable.names.each_actor;
  }
    where
      name_of : All IsName (truck_names file.base.fleet) → (k : ℕ) (d : Truck) → k < length file.base.fleet → IsName (get_or file.base.fleet k d).name
      name_of all k d within =
          subst IsName (get_or-map (λ (t : Truck). t.name) file.base.fleet k d [] within) (all k [] (omega (arith, within, length-map file.base.fleet (λ (t : Truck). t.name))))

  pub again : IsNextDay only file es
  again = record {
    writable = record { kept = day_file; bounds = bounded; names = named };
    today = day_is file.base file.day es legal;
    roads = base_is file.base.roads (state_in file.base M) of_roads ∙ state_is file.base file.day es;
  }

pub next_days : NextDaysAreDays
next_days only file es writable legal whole = again only file es writable legal whole

serial_one : SerialHistoriesAreOne
serial_one file history other roads h k = history_one finished_one file other history roads k h

pub next_days_begin : NextDaysBegin
next_days_begin = next_begins serial_one whole_ordered next_days
