-- What is made is accepted.
use Rattle.std.proofs.Common.{◌≡◌, ◌∙◌, ◌≤◌, ◌+◌, ◌*◌, ◌∷◌, [], ℕ, List, Ok, refl, ap, arith}
use Rattle.std.specs.Prelude.{codes}
use Rattle.csv.specs.Records.{field_at}
use Rattle.csv.specs.Reading.{strip_bom}
use Rattle.csv.specs.Writing.{fields_text, is_blank}
use Rattle.day_text.specs.Causes.{◌>>=◌}
use Rattle.day_text.specs.Records.{Row, rows_of, judged}
use Rattle.day_text.specs.Days.{DayParts, day_of, ended_day, judge_day, fresh_day, opening_of, file_parts_of}
use Rattle.day_maker.specs.Making.{Maker, ◌>>◌}
use Rattle.day_maker.specs.Made.{actors, commands, last_record, made_day, made_rows, nodes, segments, spans, trucks}
use Rattle.day_writer.specs.Texts.{line, row}
use Rattle.day_maker.proofs.Fleets.{InTraffic, actors_lead, four_actors, four_trucks, traffic_begins, trucks_lead}
use Rattle.day_maker.proofs.Grids.{grid_none}
use Rattle.day_writer.proofs.Judge.{DayProgress, open_day}
use Rattle.day_maker.proofs.Leading.{Ends, ends_put, ends_then, leads_weaker}
use Rattle.day_writer.proofs.Leading.{from_append, from_one}
use Rattle.day_maker.proofs.Nodes.{InNodes, nodes_lead}
use Rattle.day_maker.proofs.Orders.{commands_lead}
use Rattle.day_maker.proofs.Segments.{InSegments, segments_begin, segments_lead}
use Rattle.day_maker.proofs.Spans.{InSpans, spans_begin, spans_lead}
use Rattle.day_writer.proofs.Plain.{IsPlainRow, rows_read}

-- the records behind the opening day
abbrev later : ℕ → Maker
later z = nodes z >> (segments z >> (spans z >> (trucks >> (actors >> (commands z >> last_record)))))

ending_ends : (z : ℕ) → Ends (InTraffic z four_trucks four_actors (20 * z)) last_record
unfolding field_at
ending_ends z = ends_put (InTraffic z four_trucks four_actors (20 * z)) (row (codes "end" ∷ [])) (refl, (refl, (refl, (refl, (refl, (refl, (refl, (refl, (refl, tt))))))))) (λ d. (_, refl, record { file = file_parts_of d; told = λ j. refl }))

later_ends : (z : ℕ) → 1 ≤ z → z ≤ 40 → Ends (InNodes z 0 0) (later z)
later_ends z some small =
    ends_then (InNodes z 0 0) (InSegments z 0 0 []) (nodes z) (segments z >> (spans z >> (trucks >> (actors >> (commands z >> last_record)))))
    (leads_weaker (InNodes z 0 0) (InNodes z 0 0) (InNodes z (z + 1) 0) (InSegments z 0 0 []) (nodes z) (λ d at. at) (nodes_lead z small) (λ d at. segments_begin z d at))
    (ends_then (InSegments z 0 0 []) (InSpans z 0 0) (segments z) (spans z >> (trucks >> (actors >> (commands z >> last_record))))
    (leads_weaker (InSegments z 0 0 []) (InSegments z 0 0 []) (InSegments z (z + 1) 0 []) (InSpans z 0 0) (segments z) (λ d at. at) (segments_lead z small) (λ d at. spans_begin z d at))
    (ends_then (InSpans z 0 0) (InTraffic z [] [] 0) (spans z) (trucks >> (actors >> (commands z >> last_record)))
    (leads_weaker (InSpans z 0 0) (InSpans z 0 0) (InSpans z (z + 1) 0) (InTraffic z [] [] 0) (spans z) (λ d at. at) (spans_lead z small) (λ d at. traffic_begins z d at))
    (ends_then (InTraffic z [] [] 0) (InTraffic z four_trucks [] 0) trucks (actors >> (commands z >> last_record)) (trucks_lead z)
    (ends_then (InTraffic z four_trucks [] 0) (InTraffic z four_trucks four_actors 0) actors (commands z >> last_record) (actors_lead z four_trucks)
    (ends_then (InTraffic z four_trucks four_actors 0) (InTraffic z four_trucks four_actors (20 * z)) (commands z) last_record (commands_lead z some small)
    (ending_ends z))))))

-- the opening day
opening_plain : IsPlainRow (row (codes "day" ∷ codes "2026-01-01" ∷ []))
opening_plain = (refl, (refl, (refl, (refl, (refl, (refl, (refl, (refl, (refl, tt)))))))))

begins : (z : ℕ) → InNodes z 0 0 (fresh_day (codes "2026-01-01"))
begins z = record { nodes = grid_none 110 (z + 1) z; few = omega arith; segments = refl; spans = refl; fleet = refl; actors = refl; orders = refl }

-- from the state before the opening day to the end
whole : (seed z : ℕ) (start : DayProgress) (rows : List Row) → 1 ≤ z → z ≤ 40 → rows ≡ made_rows seed z → judge_day start (row (codes "day" ∷ codes "2026-01-01" ∷ [])) ≡ Ok (open_day (fresh_day (codes "2026-01-01")))
    → (file : DayParts) × ((judged judge_day 1 start rows >>= ended_day) ≡ Ok file)
whole seed z start rows some small same first =
    let (q, rest, end) = (later_ends z some small).ends seed (fresh_day (codes "2026-01-01")) (begins z) in
    let (j, told) = from_append start (open_day (fresh_day (codes "2026-01-01"))) q (row (codes "day" ∷ codes "2026-01-01" ∷ []) ∷ []) (later z seed).rows (from_one start (open_day (fresh_day (codes "2026-01-01"))) (row (codes "day" ∷ codes "2026-01-01" ∷ [])) opening_plain first) rest 1 in
    (end.file, ap (λ (t : List Row). judged judge_day 1 start t >>= ended_day) same ∙ (ap (λ r. r >>= ended_day) told ∙ end.told j))

-- what is written is read
made_read : (seed z : ℕ) → 1 ≤ z → z ≤ 40 → rows_of (made_day seed z) ≡ made_rows seed z
unfolding made_day strip_bom line fields_text is_blank
made_read seed z some small = rows_read (made_rows seed z) (opening_plain, (later_ends z some small).plain seed)

pub made_is_accepted : (seed z : ℕ) → 1 ≤ z → z ≤ 40 → (file : DayParts) × (day_of (made_day seed z) ≡ Ok file)
unfolding opening_of field_at
made_is_accepted seed z some small = whole seed z _ (rows_of (made_day seed z)) some small (made_read seed z some small) refl
