-- The spans that are made are accepted.
use Rattle.std.proofs.Common.{◌≡◌, ◌≢◌, ◌∙◌, ◌<◌, ◌≤◌, ◌+◌, ◌*◌, ◌∷◌, ◌++◌, [], ℕ, List, Ok, Some, false, eqb, refl, ap, arith, length, inl, inr, length-append}
use Rattle.std.specs.Prelude.{codes}
use Rattle.std.specs.Fmt.{decimal}
use Rattle.std.specs.List.{AllByRecursion, enumerate_from, filter}
use Rattle.std.proofs.lemmas.List.{map-append}
use Rattle.std.proofs.lemmas.Bool.{le-leb, lt-ltb, ne_eqb}
use Rattle.csv.specs.Records.{field_at}
use Rattle.road_graph.specs.Adding.{with_span}
use Rattle.road_graph.specs.Roads.{has_name, segment_names, span_names, number_of as number_named}
use Rattle.road_graph.specs.declared.segment.Span.{Span}
use Rattle.day_text.specs.Days.{judge_day}
use Rattle.day_text.specs.Roads.{with_span_of}
use Rattle.day_maker.specs.Making.{◌>>=◌, draw, each, put}
use Rattle.day_maker.specs.Made.{east_name, span, span_name, spans}
use Rattle.day_writer.specs.Texts.{row}
use Rattle.day_maker.proofs.Grids.{Grid, IsMade, all_last, all_map, grid_column, grid_fresh, grid_more, grid_none, grid_row, place_passed, row_passed}
use Rattle.day_writer.proofs.Judge.{DaySoFar, open_day}
use Rattle.day_maker.proofs.Leading.{Leads, leads_draw, leads_each, leads_put, leads_weaker}
use Rattle.day_maker.proofs.Leaves.{cell_injective, cell_ok}
use Rattle.day_writer.proofs.Leaves.{number_ok}
use Rattle.day_writer.proofs.Named.{IsThere, one_name}
use Rattle.day_maker.proofs.Nodes.{few_places}
use Rattle.day_writer.proofs.Plain.{number_plain}
use Rattle.day_maker.proofs.Plain.{cell_plain}
use Rattle.day_maker.proofs.Segments.{HasNodes, InSegments}

-- all segments to the east are there
abbrev pub HasEast : ℕ → List (List ℕ) → Type 0
HasEast z names = (i j : ℕ) → i ≤ z → j < z → IsThere (east_name i j) names

-- a span on the segment of an earlier place
pub record IsElsewhere (z r c : ℕ) (names : List (List ℕ)) (t : Span) : Type 0 where
  pub row : ℕ
  pub column : ℕ
  pub on : number_named (east_name row column) names ≡ Some t.segment
  pub low : row ≤ z
  pub left : column ≤ z
  pub made : IsMade 98 row column r c []

pub record InSpans (z r c : ℕ) (d : DaySoFar) : Type 0 where
  pub nodes : HasNodes z d.network.nodes
  pub east : HasEast z (segment_names d.network.segments)
  pub spans : Grid 98 0 z r c [] (span_names d.network.spans)
  pub few : length d.network.spans ≤ r * (z + 1) + c
  pub elsewhere : AllByRecursion (IsElsewhere z r c (segment_names d.network.segments)) d.network.spans
  pub fleet : d.fleet ≡ []
  pub actors : d.actors ≡ []
  pub orders : d.orders ≡ []

-- where the segments are, no spans are yet
pub spans_begin : (z : ℕ) (d : DaySoFar) → InSegments z (z + 1) 0 [] d → InSpans z 0 0 d
spans_begin z d at = record {
  nodes = at.nodes;
  east = λ i j hi hj. at.segments.known i j hj (inl (inl (omega arith)));
  spans = rw at.spans (grid_none 98 0 z);
  few = rw at.spans (omega arith);
  elsewhere = rw at.spans tt;
  fleet = at.fleet;
  actors = at.actors;
  orders = at.orders;
}

-- no span is on a segment
none_on : (p : ℕ) (spans : List Span) (k : ℕ) → AllByRecursion (λ (t : Span). t.segment ≢ p) spans → filter (λ (x : ℕ × Span). eqb x.1.segment p) (enumerate_from k spans) ≡ []
none_on p [] k h = refl
none_on p (t ∷ spans) k (h, hs) = rw (ne_eqb t.segment p h) (none_on p spans (k + 1) hs)

-- a span of an earlier place is not on this place's segment
apart : (z r c p : ℕ) (names : List (List ℕ)) (t : Span) → z ≤ 40 → r ≤ z → c ≤ z → number_named (east_name r c) names ≡ Some p → IsElsewhere z r c names t → t.segment ≢ p
apart z r c p names t small hr hc is at e =
    let same = cell_injective 101 at.row at.column 101 r c (omega (arith, at.low)) (omega (arith, at.left)) (omega arith) (omega arith) (one_name (east_name at.row at.column) (east_name r c) names p (at.on ∙ ap Some e) is) in
    by at.made same.1 same.2
  where
    by : IsMade 98 at.row at.column r c [] → at.row ≡ r → at.column ≡ c → ⊥
    by (inl (inl h)) q w = omega arith
    by (inl (inr h)) q w = omega arith
    by (inr (h, k, m)) q w = m

-- one span
span_put : (z r c inches rating : ℕ) → z ≤ 40 → r ≤ z → c < z → 1 ≤ inches → inches ≤ 6000 → rating ≤ 100000
    → Leads (InSpans z r c) (put (row (codes "span" ∷ span_name r c ∷ east_name r c ∷ decimal inches ∷ decimal rating ∷ []))) (InSpans z r (c + 1))
unfolding with_span_of field_at
span_put z r c inches rating small hr hc some long light =
    leads_put (InSpans z r c) (InSpans z r (c + 1)) (row (codes "span" ∷ span_name r c ∷ east_name r c ∷ decimal inches ∷ decimal rating ∷ []))
    (refl, (refl, (cell_plain 98 r c refl (omega arith) (omega arith), (cell_plain 101 r c refl (omega arith) (omega arith), (number_plain inches (omega arith), (number_plain rating (omega arith), (refl, (refl, (refl, tt)))))))))
    (λ d at. (record d { network = with_span d.network (record { name = span_name r c; segment = (at.east r c hr hc).place; inches = inches; rating = rating }) }, judges d at, goes d at))
  where
    judges : (d : DaySoFar) (at : InSpans z r c d) → judge_day (open_day d) (row (codes "span" ∷ span_name r c ∷ east_name r c ∷ decimal inches ∷ decimal rating ∷ [])) ≡ Ok (open_day (record d { network = with_span d.network (record { name = span_name r c; segment = (at.east r c hr hc).place; inches = inches; rating = rating }) }))
    judges d at =
        let p : ℕ = (at.east r c hr hc).place in
        let fresh : has_name (span_name r c) (span_names d.network.spans) ≡ false = grid_fresh z 98 r c [] (span_names d.network.spans) small hr (omega arith) (λ k. k) at.spans in
        let alone : filter (λ (x : ℕ × Span). eqb x.1.segment p) (enumerate_from 0 d.network.spans) ≡ [] = none_on p d.network.spans 0 (all_map (IsElsewhere z r c (segment_names d.network.segments)) (λ (t : Span). t.segment ≢ p) (λ t e. apart z r c p (segment_names d.network.segments) t small hr (omega arith) (at.east r c hr hc).is e) d.network.spans at.elsewhere) in
        rw (cell_ok 98 r c refl (omega arith) (omega arith), cell_ok 101 r c refl (omega arith) (omega arith), number_ok inches (omega arith), number_ok rating (omega arith), fresh, (at.east r c hr hc).is, le-leb 1 inches some, le-leb inches 6000 long, le-leb rating 100000 light, lt-ltb (length d.network.spans) 2048 (omega (arith, at.few, few_places z r c small hr (omega arith))), alone) refl

    goes : (d : DaySoFar) (at : InSpans z r c d) → InSpans z r (c + 1) (record d { network = with_span d.network (record { name = span_name r c; segment = (at.east r c hr hc).place; inches = inches; rating = rating }) })
    goes d at =
        let new : Span = record { name = span_name r c; segment = (at.east r c hr hc).place; inches = inches; rating = rating } in
        record {
          nodes = at.nodes;
          east = at.east;
          spans = rw (map-append (λ (t : Span). t.name) d.network.spans (new ∷ [])) (grid_column 98 0 z r c (98 ∷ []) (span_names d.network.spans ++ span_name r c ∷ []) (λ k. inl refl) (grid_more 98 0 z 98 r c [] (span_names d.network.spans) hr (omega arith) at.spans));
          few = simp length-append (omega (arith, at.few));
          elsewhere = all_last (IsElsewhere z r (c + 1) (segment_names d.network.segments)) d.network.spans new
              (all_map (IsElsewhere z r c (segment_names d.network.segments)) (IsElsewhere z r (c + 1) (segment_names d.network.segments)) (λ t e. record { row = e.row; column = e.column; on = e.on; low = e.low; left = e.left; made = place_passed 98 e.row e.column r c [] e.made }) d.network.spans at.elsewhere)
              (record { row = r; column = c; on = (at.east r c hr hc).is; low = hr; left = omega arith; made = inl (inr (refl, omega arith)) });
          fleet = at.fleet;
          actors = at.actors;
          orders = at.orders;
        }

span_leads : (z r c : ℕ) → z ≤ 40 → r ≤ z → c < z → Leads (InSpans z r c) (span r c) (InSpans z r (c + 1))
unfolding span
span_leads z r c small hr hc =
    leads_draw (InSpans z r c) (InSpans z r (c + 1)) 80 (λ i. draw 1500 >>= (λ n. put (row (codes "span" ∷ span_name r c ∷ east_name r c ∷ decimal (240 + 12 * i) ∷ decimal (800 + n) ∷ [])))) (omega arith)
    (λ i hi. leads_draw (InSpans z r c) (InSpans z r (c + 1)) 1500 (λ n. put (row (codes "span" ∷ span_name r c ∷ east_name r c ∷ decimal (240 + 12 * i) ∷ decimal (800 + n) ∷ []))) (omega arith)
    (λ n hn. span_put z r c (240 + 12 * i) (800 + n) small hr hc (omega arith) (omega arith) (omega arith)))

next_row : (z r : ℕ) (d : DaySoFar) → InSpans z r z d → InSpans z (r + 1) 0 d
next_row z r d at = record {
  nodes = at.nodes;
  east = at.east;
  spans = grid_row 98 0 z r z (span_names d.network.spans) (omega arith) at.spans;
  few = omega (arith, at.few);
  elsewhere = all_map (IsElsewhere z r z (segment_names d.network.segments)) (IsElsewhere z (r + 1) 0 (segment_names d.network.segments)) (λ t e. record { row = e.row; column = e.column; on = e.on; low = e.low; left = e.left; made = row_passed 98 e.row e.column r z e.made }) d.network.spans at.elsewhere;
  fleet = at.fleet;
  actors = at.actors;
  orders = at.orders;
}

pub spans_lead : (z : ℕ) → z ≤ 40 → Leads (InSpans z 0 0) (spans z) (InSpans z (z + 1) 0)
spans_lead z small =
    leads_each (λ r. InSpans z r 0) (λ r. each 0 z (λ c. span r c)) (z + 1) 0 (z + 1) (omega arith)
    (λ r low high. leads_weaker (InSpans z r 0) (InSpans z r 0) (InSpans z r z) (InSpans z (r + 1) 0) (each 0 z (λ c. span r c)) (λ d at. at)
    (leads_each (λ c. InSpans z r c) (λ c. span r c) z 0 z (omega arith) (λ c least most. span_leads z r c small (omega arith) (omega arith)))
    (λ d at. next_row z r d at))
