-- What is written is read, and what is read may be written.
use Rattle.std.proofs.Common.{◌≡◌, ◌∙◌, ◌∷◌, ◌++◌, [], List, Ok, refl, ap, map}
use Rattle.std.specs.Prelude.{flat_map}
use Rattle.std.specs.List.{AllByRecursion}
use Rattle.csv.specs.Records.{field_at}
use Rattle.csv.specs.Reading.{strip_bom}
use Rattle.csv.specs.Writing.{fields_text, is_blank}
use Rattle.day_text.specs.Causes.{◌>>=◌}
use Rattle.day_text.specs.Days.{DayParts, day_of, ended_day, fresh_day, judge_day, opening_of}
use Rattle.day_text.specs.Records.{Row, judged, rows_of}
use Rattle.day_text.proofs.EveryDay.{day_bounded, day_keeps}
use Rattle.day_text.proofs.Named.{day_named}
use Rattle.day_writer.specs.Laws.{WhatIsReadIsReadAgain, WhatIsReadIsWritable, WhatIsWrittenIsRead}
use Rattle.day_writer.specs.Limits.{limit_rows}
use Rattle.day_writer.specs.Orders.{order_row}
use Rattle.day_writer.specs.Rows.{actor_row, day_rows_of, day_text_of, end_row, node_row, opening_row, road_rows_of, segment_row, truck_row}
use Rattle.day_writer.specs.Texts.{line}
use Rattle.day_writer.specs.Writable.{IsWritable}
use Rattle.day_writer.proofs.CommandsRead.{commands_go}
use Rattle.day_writer.proofs.Judge.{DayProgress, DaySoFar, ended_on, open_day}
use Rattle.day_writer.proofs.Leading.{Goes, LeadsFrom, from_append, from_one, goes_then}
use Rattle.day_writer.proofs.Leaves.{day_ok, day_plain}
use Rattle.day_writer.proofs.LimitsRead.{all_limits_go}
use Rattle.day_writer.proofs.Plain.{IsPlainRow, all_rows, rows_read}
use Rattle.day_writer.proofs.RoadsRead.{bare, nodes_go, on_day, segments_go}
use Rattle.day_writer.proofs.SpansRead.{spans_go}
use Rattle.day_writer.proofs.TrafficRead.{actors_go, on_bare, on_roads, trucks_go}

module _ (file : DayParts) (h : IsWritable file) where
  -- all that a day says
  abbrev whole_day : DaySoFar
  whole_day = record (on_roads file h) { fleet = file.base.fleet; actors = file.actors; orders = file.commands }

  roads_go : Goes (fresh_day file.day) (road_rows_of file.base.roads) (on_bare file h)
  roads_go =
      let roads = file.base.roads in
      goes_then (fresh_day file.day) (on_day file.day roads.nodes [] []) (on_bare file h) (map node_row roads.nodes) _ (nodes_go file h)
      (goes_then (on_day file.day roads.nodes [] []) (on_day file.day roads.nodes (map bare roads.segments) []) (on_bare file h) (map (segment_row roads) roads.segments) _ (segments_go file h)
      (spans_go file h))

  opening_plain : IsPlainRow (opening_row file.day)
  opening_plain = (refl, (refl, (day_plain file.day h.bounds.day, (refl, (refl, (refl, (refl, (refl, (refl, tt)))))))))

  end_plain : IsPlainRow end_row
  end_plain = (refl, (refl, (refl, (refl, (refl, (refl, (refl, (refl, (refl, tt)))))))))

  -- what stands behind the trucks, behind the actors, and behind the limits
  abbrev with_trucks : DaySoFar
  with_trucks = record (on_bare file h) { fleet = file.base.fleet }

  abbrev with_actors : DaySoFar
  with_actors = record (on_bare file h) { fleet = file.base.fleet; actors = file.actors }

  abbrev with_limits : DaySoFar
  with_limits = record (on_roads file h) { fleet = file.base.fleet; actors = file.actors }

  -- the records behind the opening day
  abbrev later : List Row
  later =
      road_rows_of file.base.roads ++ (map truck_row file.base.fleet ++ (map actor_row file.actors
      ++ (flat_map limit_rows file.base.roads.segments ++ (map (order_row file.base file.actors) file.commands ++ end_row ∷ []))))

  end_leads : LeadsFrom (open_day whole_day) (end_row ∷ []) (ended_on whole_day)
  unfolding field_at
  end_leads = from_one (open_day whole_day) (ended_on whole_day) end_row end_plain refl

  later_leads : LeadsFrom (open_day (fresh_day file.day)) later (ended_on whole_day)
  later_leads =
      from_append (open_day (fresh_day file.day)) (open_day (on_bare file h)) (ended_on whole_day) (road_rows_of file.base.roads) _ roads_go.leads
      (from_append (open_day (on_bare file h)) (open_day with_trucks) (ended_on whole_day) (map truck_row file.base.fleet) _ (trucks_go file h).leads
      (from_append (open_day with_trucks) (open_day with_actors) (ended_on whole_day) (map actor_row file.actors) _ (actors_go file h).leads
      (from_append (open_day with_actors) (open_day with_limits) (ended_on whole_day) (flat_map limit_rows file.base.roads.segments) _ (all_limits_go file h).leads
      (from_append (open_day with_limits) (open_day whole_day) (ended_on whole_day) (map (order_row file.base file.actors) file.commands) (end_row ∷ []) (commands_go file h).leads end_leads))))

  all_plain : AllByRecursion IsPlainRow (day_rows_of file)
  all_plain = (
    opening_plain,
    all_rows (road_rows_of file.base.roads) _ roads_go.plain
        (all_rows (map truck_row file.base.fleet) _ (trucks_go file h).plain
        (all_rows (map actor_row file.actors) _ (actors_go file h).plain
        (all_rows (flat_map limit_rows file.base.roads.segments) _ (all_limits_go file h).plain
        (all_rows (map (order_row file.base file.actors) file.commands) (end_row ∷ []) (commands_go file h).plain (end_plain, tt))))),
  )

  -- from the state before the opening day to the end
  whole : (start : DayProgress) (rows : List Row) → rows ≡ day_rows_of file → judge_day start (opening_row file.day) ≡ Ok (open_day (fresh_day file.day)) → (judged judge_day 1 start rows >>= ended_day) ≡ Ok file
  whole start rows same first =
      let (j, told) = from_append start (open_day (fresh_day file.day)) (ended_on whole_day) (opening_row file.day ∷ []) later (from_one start (open_day (fresh_day file.day)) (opening_row file.day) opening_plain first) later_leads 1 in
      ap (λ (t : List Row). judged judge_day 1 start t >>= ended_day) same ∙ ap (λ r. r >>= ended_day) told

  -- what is written is read, record by record
  written_read : rows_of (day_text_of file) ≡ day_rows_of file
  unfolding day_text_of strip_bom line fields_text is_blank
  written_read = rows_read (day_rows_of file) all_plain

  read_back : day_of (day_text_of file) ≡ Ok file
  unfolding opening_of field_at
  read_back = whole _ (rows_of (day_text_of file)) written_read (rw (day_ok file.day h.bounds.day) refl)

pub written_is_read : WhatIsWrittenIsRead
written_is_read file h = read_back file h

pub read_is_writable : WhatIsReadIsWritable
read_is_writable bytes file e = record { kept = day_keeps bytes file e; bounds = day_bounded bytes file e; names = day_named bytes file e }

pub read_is_read_again : WhatIsReadIsReadAgain
read_is_read_again bytes file e = written_is_read file (read_is_writable bytes file e)
