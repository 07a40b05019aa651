-- The lists of a network stay in range, few and of one name each as it grows.
use Rattle.std.proofs.Common.{◌≡◌, ◌<◌, ◌≤◌, ◌∷◌, ◌++◌, [], ℕ, List, Some, true, false, length, set, get_or, refl, ap, sym, subst, inl, inr, ◌∙◌, arith, leb, ltb, length-append, length-set}
use Rattle.std.specs.Prelude.{slice_get, nat_lt, ◌&&◌}
use Rattle.std.proofs.lemmas.Bool.{cases_eq, and_parts, ltb-true, leb-true}
use Rattle.std.proofs.lemmas.List.{map_push, map-set, set-get_or}
use Rattle.std.proofs.lemmas.Option.{get_or_from_slice_get}
use Rattle.road_graph.specs.declared.segment.Segment.{Segment}
use Rattle.road_graph.specs.declared.segment.Span.{Span}
use Rattle.road_graph.specs.declared.values.Values.{Values}
use Rattle.road_graph.specs.declared.values.What.{What}
use Rattle.road_graph.specs.declared.values.What.TheVariants.{Closed, Height, Width, Length, Gross, Allowance, Tridem}
use Rattle.road_graph.specs.Ranges.{is_between, is_feet, is_inches, is_rating, is_limit, with_value, default_values, AreInRange}
use Rattle.road_graph.specs.Roads.{Roads, has_name, segment_names, span_names, spans_of, AreDistinct, IsSegment, IsSpan, IsRoads}
use Rattle.road_graph.specs.Adding.{new_segment, with_node, with_segment, with_span, limited}
use Rattle.road_graph.proofs.Places.{get-push_cases, get-set_cases, get-map}
use Rattle.road_graph.proofs.Distinct.{distinct-push}
use Rattle.road_graph.proofs.Filters.{spans-more, spans-same}

-- the limits of a segment on which none is set are in range
pub defaults_in_range : AreInRange default_values
defaults_in_range = record { height = refl; width = refl; length = refl; gross = refl; allowance = refl; tridem = refl }

-- a number between two others
between-parts : (least most n : ℕ) → is_between least most n ≡ true → (least ≤ n) × (n ≤ most)
between-parts least most n e =
    let both = and_parts (leb least n) (leb n most) e in (leb-true least n both.0, leb-true n most both.1)

-- a segment and a span of which each test says yes
pub segment-fits : (nodes : ℕ) (name : List ℕ) (from to feet : ℕ) → nat_lt from nodes && nat_lt to nodes ≡ true → is_feet feet ≡ true
    → IsSegment nodes (new_segment name from to feet)
segment-fits nodes name from to feet ends long =
    let both = and_parts (ltb from nodes) (ltb to nodes) ends in
    let feet_are = between-parts 1 10000000 feet long in
    record {
      from = ltb-true from nodes both.0;
      to = ltb-true to nodes both.1;
      some = feet_are.0;
      far = feet_are.1;
      base = defaults_in_range;
    }

pub span-fits : (segments : ℕ) (name : List ℕ) (segment inches rating : ℕ) → segment < segments → is_inches inches && is_rating rating ≡ true
    → IsSpan segments (record { name = name; segment = segment; inches = inches; rating = rating })
span-fits segments name segment inches rating within fits =
    let both = and_parts (is_inches inches) (is_rating rating) fits in
    let inches_are = between-parts 1 6000 inches both.0 in
    record { segment = within; some = inches_are.0; long = inches_are.1; rating = leb-true rating 100000 both.1 }

segment-wider : (nodes more : ℕ) (s : Segment) → nodes ≤ more → IsSegment nodes s → IsSegment more s
segment-wider nodes more s le h = record { from = omega (arith, le, h.from); to = omega (arith, le, h.to); some = h.some; far = h.far; base = h.base }

span-wider : (segments more : ℕ) (t : Span) → segments ≤ more → IsSpan segments t → IsSpan more t
span-wider segments more t le h = record { segment = omega (arith, le, h.segment); some = h.some; long = h.long; rating = h.rating }

pub roads-node : (roads : Roads) (name : List ℕ) → IsRoads roads → length roads.nodes < 4096 → has_name name roads.nodes ≡ false → IsRoads (with_node roads name)
roads-node roads name h few none =
    let more = length-append roads.nodes (name ∷ []) in record {
      few_nodes = omega (arith, more, few);
      few_segments = h.few_segments;
      few_spans = h.few_spans;
      few_on = h.few_on;
      each = λ i s at. segment-wider (length roads.nodes) (length (roads.nodes ++ name ∷ [])) s (omega (arith, more)) (h.each i s at);
      each_span = h.each_span;
      node_names = distinct-push roads.nodes name h.node_names none;
      segment_names = h.segment_names;
      span_names = h.span_names;
    }

pub roads-segment : (roads : Roads) (s : Segment) → IsRoads roads → length roads.segments < 16384 → IsSegment (length roads.nodes) s
    → has_name s.name (segment_names roads.segments) ≡ false → IsRoads (with_segment roads s)
roads-segment roads s h few fits none =
    let more = length-append roads.segments (s ∷ []) in record {
      few_nodes = h.few_nodes;
      few_segments = omega (arith, more, few);
      few_spans = h.few_spans;
      few_on = h.few_on;
      each = λ i t at. elim (get-push_cases roads.segments s i t at) [ inl w ↦ h.each i t w | inr w ↦ rw w.1 fits ];
      each_span = λ i t at. span-wider (length roads.segments) (length (roads.segments ++ s ∷ [])) t (omega (arith, more)) (h.each_span i t at);
      node_names = h.node_names;
      segment_names = subst AreDistinct (sym (map_push (λ (t : Segment). t.name) roads.segments s)) (distinct-push (segment_names roads.segments) s.name h.segment_names none);
      span_names = h.span_names;
    }

few-on : (spans : List Span) (t : Span) → length (spans_of spans t.segment) < 16 → ((i : ℕ) → length (spans_of spans i) ≤ 16) → (i : ℕ) → length (spans_of (spans ++ t ∷ []) i) ≤ 16
few-on spans t few h i = elim (cases_eq i t.segment) [
  | inl same ↦ (let e = ap length (spans-more spans t) ∙ length-append (spans_of spans t.segment) (length spans ∷ []) in
      let le : length (spans_of (spans ++ t ∷ []) t.segment) ≤ 16 = omega (arith, e, few) in
      rw same le)
  | inr other ↦ rw (spans-same spans t i other) (h i)
]

pub roads-span : (roads : Roads) (t : Span) → IsRoads roads → length roads.spans < 2048 → length (spans_of roads.spans t.segment) < 16 → IsSpan (length roads.segments) t
    → has_name t.name (span_names roads.spans) ≡ false → IsRoads (with_span roads t)
roads-span roads t h few few_here fits none =
    let more = length-append roads.spans (t ∷ []) in record {
      few_nodes = h.few_nodes;
      few_segments = h.few_segments;
      few_spans = omega (arith, more, few);
      few_on = few-on roads.spans t few_here h.few_on;
      each = h.each;
      each_span = λ i u at. elim (get-push_cases roads.spans t i u at) [ inl w ↦ h.each_span i u w | inr w ↦ rw w.1 fits ];
      node_names = h.node_names;
      segment_names = h.segment_names;
      span_names = subst AreDistinct (sym (map_push (λ (u : Span). u.name) roads.spans t)) (distinct-push (span_names roads.spans) t.name h.span_names none);
    }

pub range-limit : (v : Values) (what : What) (value : ℕ) → AreInRange v → is_limit what value ≡ true → AreInRange (with_value v what value)
range-limit v Closed value h fits = record { height = h.height; width = h.width; length = h.length; gross = h.gross; allowance = h.allowance; tridem = h.tridem }
range-limit v Height value h fits = record { height = fits; width = h.width; length = h.length; gross = h.gross; allowance = h.allowance; tridem = h.tridem }
range-limit v Width value h fits = record { height = h.height; width = fits; length = h.length; gross = h.gross; allowance = h.allowance; tridem = h.tridem }
range-limit v Length value h fits = record { height = h.height; width = h.width; length = fits; gross = h.gross; allowance = h.allowance; tridem = h.tridem }
range-limit v Gross value h fits = record { height = h.height; width = h.width; length = h.length; gross = fits; allowance = h.allowance; tridem = h.tridem }
range-limit v Allowance value h fits = record { height = h.height; width = h.width; length = h.length; gross = h.gross; allowance = fits; tridem = h.tridem }
range-limit v Tridem value h fits = record { height = h.height; width = h.width; length = h.length; gross = h.gross; allowance = h.allowance; tridem = fits }

-- a limit changes no name
pub names-limit : (segments : List Segment) (i : ℕ) (s : Segment) (what : What) (value : ℕ) → slice_get segments i ≡ Some s
    → segment_names (set segments i (limited s what value)) ≡ segment_names segments
names-limit segments i s what value at =
    let here : s.name ≡ get_or (segment_names segments) i [] =
    sym (get_or_from_slice_get (segment_names segments) i s.name [] (get-map (λ (t : Segment). t.name) segments i s at)) in
    map-set (λ (t : Segment). t.name) segments i (limited s what value)
    ∙ ap (λ (name : List ℕ). set (segment_names segments) i name) here
    ∙ set-get_or (segment_names segments) i []

pub roads-limit : (roads : Roads) (i : ℕ) (s : Segment) (what : What) (value : ℕ) → IsRoads roads → slice_get roads.segments i ≡ Some s → is_limit what value ≡ true
    → IsRoads (record roads { segments = set roads.segments i (limited s what value) })
roads-limit roads i s what value h at fits =
    let here = h.each i s at in record {
      few_nodes = h.few_nodes;
      few_segments = omega (arith, length-set roads.segments i (limited s what value), h.few_segments);
      few_spans = h.few_spans;
      few_on = h.few_on;
      each = λ j t get. elim (get-set_cases roads.segments i (limited s what value) j t get) [
        | inl w ↦ rw w.1 (record { from = here.from; to = here.to; some = here.some; far = here.far; base = range-limit s.base what value here.base fits })
        | inr w ↦ h.each j t w.1
      ];
      each_span = λ j t get. rw (length-set roads.segments i (limited s what value)) (h.each_span j t get);
      node_names = h.node_names;
      segment_names = subst AreDistinct (sym (names-limit roads.segments i s what value at)) h.segment_names;
      span_names = h.span_names;
    }
