-- What is kept of a network still agrees with its lists after each addition and each new limit.
use Rattle.std.proofs.Common.{◌≡◌, ◌<◌, ◌∷◌, ◌++◌, [], ℕ, List, Some, true, false, length, set, ap, sym, subst, ◌∙◌, length-append, length-set}
use Rattle.std.specs.Prelude.{slice_get}
use Rattle.std.proofs.lemmas.List.{map_push}
use Rattle.road_graph.specs.declared.network.Network.TheInside.{Inside}
use Rattle.road_graph.specs.declared.segment.Segment.{Segment}
use Rattle.road_graph.specs.declared.segment.Span.{Span}
use Rattle.road_graph.specs.declared.values.What.{What}
use Rattle.road_graph.specs.Ranges.{is_limit}
use Rattle.road_graph.specs.Roads.{Roads, has_name, segment_names, span_names, outgoing_of, incoming_of, spans_of, arrival_of, IsSegment, IsSpan, IsRoads}
use Rattle.road_graph.specs.Adding.{with_node, with_segment, with_span, limited}
use Rattle.road_graph.specs.Lists.{lists_of, with_appended}
use Rattle.road_graph.specs.Kept.{IsNetworkKept, roads_in}
use Rattle.road_graph.proofs.Columns.{lists-more, lists-last, lists-same}
use Rattle.road_graph.proofs.Filters.{outgoing-none, incoming-none, spans-none, outgoing-more, outgoing-same, incoming-more, incoming-same, spans-more, spans-same, outgoing-limit, incoming-limit}
use Rattle.road_graph.proofs.Growth.{roads-node, roads-segment, roads-span, roads-limit, names-limit}

module _ (n : Inside) (h : IsNetworkKept n) where
  pub kept-node : (m : Inside) (name : List ℕ) → length n.nodes < 4096 → has_name name n.nodes ≡ false
      → roads_in m ≡ with_node (roads_in n) name
      → m.segment_names ≡ n.segment_names → m.span_names ≡ n.span_names
      → lists_of m.outgoing.items ≡ lists_of n.outgoing.items ++ [] ∷ []
      → lists_of m.incoming.items ≡ lists_of n.incoming.items ++ [] ∷ []
      → lists_of m.carried.items ≡ lists_of n.carried.items
      → IsNetworkKept m
  kept-node m name few none is names spans out incoming carried =
      let roads = roads_in n in
      let nodes_are : m.nodes ≡ n.nodes ++ name ∷ [] = ap (λ (r : Roads). r.nodes) is in
      let segments_are : m.segments.items ≡ n.segments.items = ap (λ (r : Roads). r.segments) is in
      let spans_are : m.spans.items ≡ n.spans.items = ap (λ (r : Roads). r.spans) is in
      let more = length-append n.nodes (name ∷ []) in
      let from = λ (i : ℕ) (s : Segment) (at : slice_get n.segments.items i ≡ Some s). (h.roads.each i s at).from in
      let to = λ (i : ℕ) (s : Segment) (at : slice_get n.segments.items i ≡ Some s). (h.roads.each i s at).to in
      record {
        roads = subst IsRoads (sym is) (roads-node roads name h.roads few none);
        segment_names = rw (names, segments_are) h.segment_names;
        span_names = rw (spans, spans_are) h.span_names;
        outgoing = rw (out, nodes_are, segments_are)
            (lists-more (lists_of n.outgoing.items) (length n.nodes) (length (n.nodes ++ name ∷ [])) (outgoing_of n.segments.items) h.outgoing more
            (outgoing-none n.segments.items (length n.nodes) from));
        incoming = rw (incoming, nodes_are, segments_are)
            (lists-more (lists_of n.incoming.items) (length n.nodes) (length (n.nodes ++ name ∷ [])) (incoming_of n.segments.items) h.incoming more
            (incoming-none n.segments.items (length n.nodes) to));
        carried = rw (carried, segments_are, spans_are) h.carried;
      }

  pub kept-segment : (m : Inside) (s : Segment) → length n.segments.items < 16384 → IsSegment (length n.nodes) s → has_name s.name n.segment_names ≡ false
      → roads_in m ≡ with_segment (roads_in n) s
      → m.segment_names ≡ n.segment_names ++ s.name ∷ [] → m.span_names ≡ n.span_names
      → lists_of m.outgoing.items ≡ with_appended (lists_of n.outgoing.items) s.from (length n.segments.items)
      → lists_of m.incoming.items ≡ with_appended (lists_of n.incoming.items) s.to (arrival_of (length n.segments.items, s))
      → lists_of m.carried.items ≡ lists_of n.carried.items ++ [] ∷ []
      → IsNetworkKept m
  kept-segment m s few fits none is names spans out incoming carried =
      let roads = roads_in n in
      let segments = n.segments.items in
      let nodes_are : m.nodes ≡ n.nodes = ap (λ (r : Roads). r.nodes) is in
      let segments_are : m.segments.items ≡ segments ++ s ∷ [] = ap (λ (r : Roads). r.segments) is in
      let spans_are : m.spans.items ≡ n.spans.items = ap (λ (r : Roads). r.spans) is in
      let none2 : has_name s.name (segment_names segments) ≡ false = ap (has_name s.name) (sym h.segment_names) ∙ none in
      record {
        roads = subst IsRoads (sym is) (roads-segment roads s h.roads few fits none2);
        segment_names = names ∙ ap (λ (xs : List (List ℕ)). xs ++ s.name ∷ []) h.segment_names
            ∙ sym (map_push (λ (t : Segment). t.name) segments s) ∙ ap segment_names (sym segments_are);
        span_names = rw (spans, spans_are) h.span_names;
        outgoing = rw (out, nodes_are, segments_are)
            (lists-last (lists_of n.outgoing.items) (length n.nodes) (outgoing_of segments) (outgoing_of (segments ++ s ∷ [])) s.from (length segments) h.outgoing fits.from
            (outgoing-more segments s) (outgoing-same segments s));
        incoming = rw (incoming, nodes_are, segments_are)
            (lists-last (lists_of n.incoming.items) (length n.nodes) (incoming_of segments) (incoming_of (segments ++ s ∷ [])) s.to (arrival_of (length segments, s)) h.incoming fits.to
            (incoming-more segments s) (incoming-same segments s));
        carried = rw (carried, segments_are, spans_are)
            (lists-more (lists_of n.carried.items) (length segments) (length (segments ++ s ∷ [])) (spans_of n.spans.items) h.carried (length-append segments (s ∷ []))
            (spans-none n.spans.items (length segments) (λ i t at. (h.roads.each_span i t at).segment)));
      }

  pub kept-span : (m : Inside) (t : Span) → length n.spans.items < 2048 → length (spans_of n.spans.items t.segment) < 16 → IsSpan (length n.segments.items) t → has_name t.name n.span_names ≡ false
      → roads_in m ≡ with_span (roads_in n) t
      → m.segment_names ≡ n.segment_names → m.span_names ≡ n.span_names ++ t.name ∷ []
      → lists_of m.outgoing.items ≡ lists_of n.outgoing.items
      → lists_of m.incoming.items ≡ lists_of n.incoming.items
      → lists_of m.carried.items ≡ with_appended (lists_of n.carried.items) t.segment (length n.spans.items)
      → IsNetworkKept m
  kept-span m t few few_here fits none is names names2 out incoming carried =
      let roads = roads_in n in
      let spans = n.spans.items in
      let nodes_are : m.nodes ≡ n.nodes = ap (λ (r : Roads). r.nodes) is in
      let segments_are : m.segments.items ≡ n.segments.items = ap (λ (r : Roads). r.segments) is in
      let spans_are : m.spans.items ≡ spans ++ t ∷ [] = ap (λ (r : Roads). r.spans) is in
      let none2 : has_name t.name (span_names spans) ≡ false = ap (has_name t.name) (sym h.span_names) ∙ none in
      record {
        roads = subst IsRoads (sym is) (roads-span roads t h.roads few few_here fits none2);
        segment_names = rw (names, segments_are) h.segment_names;
        span_names = names2 ∙ ap (λ (xs : List (List ℕ)). xs ++ t.name ∷ []) h.span_names
            ∙ sym (map_push (λ (u : Span). u.name) spans t) ∙ ap span_names (sym spans_are);
        outgoing = rw (out, nodes_are, segments_are) h.outgoing;
        incoming = rw (incoming, nodes_are, segments_are) h.incoming;
        carried = rw (carried, segments_are, spans_are)
            (lists-last (lists_of n.carried.items) (length n.segments.items) (spans_of spans) (spans_of (spans ++ t ∷ [])) t.segment (length spans) h.carried fits.segment
            (spans-more spans t) (spans-same spans t));
      }

  pub kept-limit : (m : Inside) (i : ℕ) (s : Segment) (what : What) (value : ℕ) → slice_get n.segments.items i ≡ Some s → is_limit what value ≡ true
      → m.nodes ≡ n.nodes → m.spans.items ≡ n.spans.items → m.segments.items ≡ set n.segments.items i (limited s what value)
      → m.segment_names ≡ n.segment_names → m.span_names ≡ n.span_names
      → lists_of m.outgoing.items ≡ lists_of n.outgoing.items
      → lists_of m.incoming.items ≡ lists_of n.incoming.items
      → lists_of m.carried.items ≡ lists_of n.carried.items
      → IsNetworkKept m
  kept-limit m i s what value at fits nodes_are spans_are segments_are names names2 out incoming carried =
      let roads = roads_in n in
      let segments = n.segments.items in
      let next = set segments i (limited s what value) in
      let is : roads_in m ≡ record roads { segments = next } = cc in
      record {
        roads = subst IsRoads (sym is) (roads-limit roads i s what value h.roads at fits);
        segment_names = names ∙ h.segment_names ∙ sym (names-limit segments i s what value at) ∙ ap segment_names (sym segments_are);
        span_names = rw (names2, spans_are) h.span_names;
        outgoing = rw (out, nodes_are, segments_are)
            (lists-same (lists_of n.outgoing.items) (length n.nodes) (outgoing_of segments) (outgoing_of next) h.outgoing
            (λ j. outgoing-limit segments i s what value j at));
        incoming = rw (incoming, nodes_are, segments_are)
            (lists-same (lists_of n.incoming.items) (length n.nodes) (incoming_of segments) (incoming_of next) h.incoming
            (λ j. incoming-limit segments i s what value j at));
        carried = rw (carried, segments_are, length-set segments i (limited s what value), spans_are) h.carried;
      }
