-- What a look-up reads is what the network's lists say.
use Rattle.std.proofs.Common.{◌≡◌, ◌<◌, [], ℕ, List, Some, length, get_or, refl, sym, subst, arith, Vec}
use Rattle.std.specs.Prelude.{slice_get}
use Rattle.std.specs.declared.alloc.Global.{Global}
use Rattle.std.proofs.lemmas.List.{length-map}
use Rattle.std.proofs.lemmas.Option.{slice_get_read}
use Rattle.road_graph.specs.declared.network.Network.TheInside.{Inside}
use Rattle.road_graph.specs.declared.segment.Segment.{Segment}
use Rattle.road_graph.specs.declared.segment.Span.{Span}
use Rattle.road_graph.specs.declared.segment.Arrival.{Arrival}
use Rattle.road_graph.specs.Roads.{Roads, no_roads, outgoing_of, incoming_of, spans_of, IsOutgoing, IsIncoming, AreSpansOf, IsSegment, IsSpan, IsRoads}
use Rattle.road_graph.specs.Lists.{lists_of, AreLists}
use Rattle.road_graph.specs.Kept.{IsNetworkKept, roads_in}
use Rattle.road_graph.proofs.Places.{get-map}
use Rattle.road_graph.proofs.Filters.{outgoing_is, incoming_is, spans_are}

-- a vector among those that stand side by side holds the list that is wanted there
list-read : {X : Type 0} (vectors : List (Vec X Global)) (many : ℕ) (wanted : ℕ → List X) → AreLists (lists_of vectors) many wanted → (i : ℕ) → i < many
    → (v : Vec X Global) → v ≡ get_or vectors i v → v.items ≡ wanted i
list-read {X} vectors many wanted h i less v e =
    let within : i < length vectors = omega (arith, less, h.many_are, length-map vectors (λ (w : Vec X Global). w.items)) in
    let at : slice_get vectors i ≡ Some v = slice_get_read vectors (length vectors) i v refl within e in
    h.each i v.items (get-map (λ (w : Vec X Global). w.items) vectors i v at)

module _ (n : Inside) (h : IsNetworkKept n) (now : Roads) (is : roads_in n ≡ now) where
  pub roads-read : IsRoads now
  roads-read = subst IsRoads is h.roads

  pub outgoing-read : (node : ℕ) → node < length now.nodes → (v : Vec ℕ Global) → v ≡ get_or n.outgoing.items node v → v.items ≡ outgoing_of now.segments node
  outgoing-read node less v e =
      subst (λ (r : Roads). v.items ≡ outgoing_of r.segments node) is
      (list-read n.outgoing.items (length n.nodes) (outgoing_of n.segments.items) h.outgoing node (subst (λ (r : Roads). node < length r.nodes) (sym is) less) v e)

  pub incoming-read : (node : ℕ) → node < length now.nodes → (v : Vec Arrival Global) → v ≡ get_or n.incoming.items node v → v.items ≡ incoming_of now.segments node
  incoming-read node less v e =
      subst (λ (r : Roads). v.items ≡ incoming_of r.segments node) is
      (list-read n.incoming.items (length n.nodes) (incoming_of n.segments.items) h.incoming node (subst (λ (r : Roads). node < length r.nodes) (sym is) less) v e)

  pub spans-read : (segment : ℕ) → segment < length now.segments → (v : Vec ℕ Global) → v ≡ get_or n.carried.items segment v → v.items ≡ spans_of now.spans segment
  spans-read segment less v e =
      subst (λ (r : Roads). v.items ≡ spans_of r.spans segment) is
      (list-read n.carried.items (length n.segments.items) (spans_of n.spans.items) h.carried segment (subst (λ (r : Roads). segment < length r.segments) (sym is) less) v e)

  pub segment-read : (i : ℕ) → i < length now.segments → (s : Segment) → s ≡ get_or n.segments.items i s → IsSegment (length now.nodes) s
  segment-read i less s e =
      let within = subst (λ (r : Roads). i < length r.segments) (sym is) less in
      subst (λ (r : Roads). IsSegment (length r.nodes) s) is
      (h.roads.each i s (slice_get_read n.segments.items (length n.segments.items) i s refl within e))

  pub span-read : (i : ℕ) → i < length now.spans → (t : Span) → t ≡ get_or n.spans.items i t → IsSpan (length now.segments) t
  span-read i less t e =
      let within = subst (λ (r : Roads). i < length r.spans) (sym is) less in
      subst (λ (r : Roads). IsSpan (length r.segments) t) is
      (h.roads.each_span i t (slice_get_read n.spans.items (length n.spans.items) i t refl within e))

-- where the list is the filter, it means what the filter says
pub outgoing-means : (segments : List Segment) (node : ℕ) (numbers : List ℕ) → numbers ≡ outgoing_of segments node → IsOutgoing segments node numbers
outgoing-means segments node numbers e = subst (IsOutgoing segments node) (sym e) (outgoing_is segments node)

pub incoming-means : (segments : List Segment) (node : ℕ) (arrivals : List Arrival) → arrivals ≡ incoming_of segments node → IsIncoming segments node arrivals
incoming-means segments node arrivals e = subst (IsIncoming segments node) (sym e) (incoming_is segments node)

pub spans-mean : (spans : List Span) (segment : ℕ) (numbers : List ℕ) → numbers ≡ spans_of spans segment → AreSpansOf spans segment numbers
spans-mean spans segment numbers e = subst (AreSpansOf spans segment) (sym e) (spans_are spans segment)

no-lists : {X : Type 0} (vectors : List (Vec X Global)) (many : ℕ) (wanted : ℕ → List X) → vectors ≡ [] → many ≡ 0 → AreLists (lists_of vectors) many wanted
no-lists {X} vectors many wanted none zero_many = record {
  many_are = omega (arith, length-map vectors (λ (w : Vec X Global). w.items), zero_many, nothing);
  each = λ i list at. absurd (let e : slice_get (lists_of vectors) i ≡ Some list = at in let f : slice_get (lists_of {X = X} []) i ≡ Some list = subst (λ (vs : List (Vec X Global)). slice_get (lists_of vs) i ≡ Some list) none e in cc);
}
  where
    nothing : length vectors ≡ 0
    nothing = subst (λ (vs : List (Vec X Global)). length vs ≡ 0) (sym none) refl

-- a network with nothing in it
pub kept-none : (n : Inside) → n.nodes ≡ [] → n.segment_names ≡ [] → n.segments.items ≡ [] → n.span_names ≡ [] → n.spans.items ≡ []
    → n.outgoing.items ≡ [] → n.incoming.items ≡ [] → n.carried.items ≡ [] → IsNetworkKept n
kept-none n nodes names segments names2 spans out incoming carried =
    let is : roads_in n ≡ no_roads = cc in record {
      roads = subst IsRoads (sym is) no_roads_fit;
      segment_names = rw (names, segments) refl;
      span_names = rw (names2, spans) refl;
      outgoing = no-lists n.outgoing.items (length n.nodes) (outgoing_of n.segments.items) out (rw nodes refl);
      incoming = no-lists n.incoming.items (length n.nodes) (incoming_of n.segments.items) incoming (rw nodes refl);
      carried = no-lists n.carried.items (length n.segments.items) (spans_of n.spans.items) carried (rw segments refl);
    }
  where
    no_roads_fit : IsRoads no_roads
    no_roads_fit = record {
      few_nodes = omega arith;
      few_segments = omega arith;
      few_spans = omega arith;
      few_on = λ i. omega arith;
      each = λ i s at. absurd (cc);
      each_span = λ i t at. absurd (cc);
      node_names = record { once = λ i j name a b. absurd (cc) };
      segment_names = record { once = λ i j name a b. absurd (cc) };
      span_names = record { once = λ i j name a b. absurd (cc) };
    }
