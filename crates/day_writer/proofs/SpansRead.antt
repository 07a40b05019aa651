-- The spans that are written are read.
use Rattle.std.proofs.Common.{◌≡◌, ◌∙◌, ◌<◌, ◌≤◌, ◌+◌, ◌∷◌, ◌++◌, [], ℕ, List, Ok, Some, Bool, true, false, false, cond, eqb, get_or, length, map, refl, ap, sym, subst, arith, append_assoc, length-append}
use Rattle.std.specs.Prelude.{filter, slice_get}
use Rattle.std.specs.List.{enumerate_from}
use Rattle.std.proofs.lemmas.Bool.{le-leb, lt-ltb}
use Rattle.csv.specs.Records.{field_at}
use Rattle.road_graph.specs.Roads.{IsSpan, has_name, no_segment, segment_names, span_names, spans_of, number_of as number_named}
use Rattle.road_graph.specs.declared.segment.Segment.{Segment}
use Rattle.road_graph.specs.declared.segment.Span.{Span}
use Rattle.road_graph.proofs.Filters.{spans-more}
use Rattle.road_graph.proofs.Places.{get-map}
use Rattle.std.proofs.lemmas.Option.{slice_get-get_or}
use Rattle.day_text.specs.Days.{DayParts, judge_day}
use Rattle.day_text.specs.Named.{IsName}
use Rattle.day_text.specs.Roads.{with_span_of}
use Rattle.day_writer.specs.Rows.{span_row}
use Rattle.day_writer.specs.Writable.{IsWritable}
use Rattle.day_writer.proofs.Judge.{DaySoFar, open_day}
use Rattle.day_writer.proofs.Leading.{Goes, goes_map, goes_one}
use Rattle.day_writer.proofs.Leaves.{name_ok, name_plain, number_ok}
use Rattle.day_writer.proofs.Lists.{all_here, few_here, found_at, fresh_here, get_here, map_here, named_at}
use Rattle.day_writer.proofs.Plain.{number_plain}
use Rattle.day_writer.proofs.RoadsRead.{bare, bare_names, on_day}

-- a list has no fewer spans of a segment than one that begins it
longer : (i k : ℕ) (xs ys : List Span) → length (map (λ (x : ℕ × Span). x.0) (filter (λ (x : ℕ × Span). eqb x.1.segment i) (enumerate_from k xs))) ≤ length (map (λ (x : ℕ × Span). x.0) (filter (λ (x : ℕ × Span). eqb x.1.segment i) (enumerate_from k (xs ++ ys))))
longer i k [] ys = omega arith
longer i k (x ∷ xs) ys = by (eqb x.segment i) (longer i (k + 1) xs ys)
  where
    by : (b : Bool) → length (map (λ (x : ℕ × Span). x.0) (filter (λ (x : ℕ × Span). eqb x.1.segment i) (enumerate_from (k + 1) xs))) ≤ length (map (λ (x : ℕ × Span). x.0) (filter (λ (x : ℕ × Span). eqb x.1.segment i) (enumerate_from (k + 1) (xs ++ ys))))
        → length (map (λ (x : ℕ × Span). x.0) (cond b ((k, x) ∷ filter (λ (x : ℕ × Span). eqb x.1.segment i) (enumerate_from (k + 1) xs)) (filter (λ (x : ℕ × Span). eqb x.1.segment i) (enumerate_from (k + 1) xs))))
        ≤ length (map (λ (x : ℕ × Span). x.0) (cond b ((k, x) ∷ filter (λ (x : ℕ × Span). eqb x.1.segment i) (enumerate_from (k + 1) (xs ++ ys))) (filter (λ (x : ℕ × Span). eqb x.1.segment i) (enumerate_from (k + 1) (xs ++ ys)))))
    by true h = omega arith
    by false h = h

-- the spans in front of one on its segment are fewer than sixteen
few_on : (front : List Span) (t : Span) (rest all : List Span) → front ++ (t ∷ rest) ≡ all → length (spans_of all t.segment) ≤ 16 → length (spans_of front t.segment) < 16
few_on front t rest all e few =
    let with_it : length (spans_of (front ++ (t ∷ [])) t.segment) ≡ length (spans_of front t.segment) + 1 = ap length (spans-more front t) ∙ length-append (spans_of front t.segment) (length front ∷ []) in
    let whole : (front ++ (t ∷ [])) ++ rest ≡ all = append_assoc front (t ∷ []) rest ∙ e in
    let most : length (spans_of (front ++ (t ∷ [])) t.segment) ≤ length (spans_of ((front ++ (t ∷ [])) ++ rest) t.segment) = longer t.segment 0 (front ++ (t ∷ [])) rest in
    let bound : length (spans_of ((front ++ (t ∷ [])) ++ rest) t.segment) ≤ 16 = subst (λ (l : List Span). length (spans_of l t.segment) ≤ 16) (sym whole) few in
    omega arith

module _ (file : DayParts) (h : IsWritable file) where
  abbrev so_far_spans : List Span → List Span → DaySoFar
  so_far_spans front rest = on_day file.day file.base.roads.nodes (map bare file.base.roads.segments) front

  -- the segment of a number, by its name
  pub segment_found : (i : ℕ) → i < length file.base.roads.segments → number_named (get_or file.base.roads.segments i no_segment).name (segment_names file.base.roads.segments) ≡ Some i
  segment_found i low =
      found_at (segment_names file.base.roads.segments) i (get_or file.base.roads.segments i no_segment).name h.bounds.roads.segment_names
      (get-map (λ (s : Segment). s.name) file.base.roads.segments i (get_or file.base.roads.segments i no_segment) (slice_get-get_or file.base.roads.segments i no_segment low))

  pub segment_good : (i : ℕ) → i < length file.base.roads.segments → IsName (get_or file.base.roads.segments i no_segment).name
  segment_good i low = named_at IsName (λ (s : Segment). s.name) file.base.roads.segments i no_segment low h.names.segments

  span_goes : (front : List Span) (t : Span) (rest : List Span) → front ++ (t ∷ rest) ≡ file.base.roads.spans
      → Goes (so_far_spans front (t ∷ rest)) (span_row file.base.roads t ∷ []) (so_far_spans (front ++ (t ∷ [])) rest)
  unfolding with_span_of field_at
  span_goes front t rest e =
      let roads = file.base.roads in
      let fits : IsSpan (length roads.segments) t = h.bounds.roads.each_span (length front) t (ap (λ (l : List Span). slice_get l (length front)) (sym e) ∙ get_here front t rest) in
      let names_are = map_here (λ (u : Span). u.name) front t rest roads.spans e in
      let good : IsName t.name = all_here IsName (span_names front) t.name (span_names rest) (span_names roads.spans) names_are h.names.spans in
      let on_good = segment_good t.segment fits.segment in
      let fresh : has_name t.name (span_names front) ≡ false = fresh_here (span_names front) t.name (span_names rest) (span_names roads.spans) names_are h.bounds.roads.span_names in
      let room : length front < length roads.spans = few_here front t rest roads.spans e in
      let most : length roads.spans ≤ 2048 = h.bounds.roads.few_spans in
      let few : length (spans_of front t.segment) < 16 = few_on front t rest roads.spans e (h.bounds.roads.few_on t.segment) in
      let on_is = ap (number_named (get_or roads.segments t.segment no_segment).name) (bare_names roads.segments) ∙ segment_found t.segment fits.segment in
      let name = (get_or roads.segments t.segment no_segment).name in
      let judges : judge_day (open_day (so_far_spans front (t ∷ rest))) (span_row roads t) ≡ Ok (open_day (so_far_spans (front ++ (t ∷ [])) rest)) =
      rw (name_ok t.name good, name_ok name on_good, number_ok t.inches (omega (arith, fits.long)), number_ok t.rating (omega (arith, fits.rating)), fresh, on_is, le-leb 1 t.inches fits.some, le-leb t.inches 6000 fits.long, le-leb t.rating 100000 fits.rating, lt-ltb (length front) 2048 (omega arith), lt-ltb (length (spans_of front t.segment)) 16 few) refl in
      goes_one (so_far_spans front (t ∷ rest)) (so_far_spans (front ++ (t ∷ [])) rest) (span_row roads t)
      (refl, (refl, (name_plain t.name good, (name_plain name on_good, (number_plain t.inches (omega (arith, fits.long)), (number_plain t.rating (omega (arith, fits.rating)), (refl, (refl, (refl, tt))))))))) judges

  pub spans_go : Goes (on_day file.day file.base.roads.nodes (map bare file.base.roads.segments) []) (map (span_row file.base.roads) file.base.roads.spans) (on_day file.day file.base.roads.nodes (map bare file.base.roads.segments) file.base.roads.spans)
  spans_go = goes_map file.base.roads.spans so_far_spans (span_row file.base.roads) span_goes
