-- A network as plain lists, and what its look-ups tell.
use Rattle.std.specs.Prelude.{◌≡◌, ℕ, ◌<◌, ◌≤◌, Bool, ◌==◌, List, [], map, filter, length, position, slice_get, slice_index_or, Option, Some}
use Rattle.std.specs.List.{list_any, enumerate_from}
use Rattle.std.specs.Str.{bytes_eq}
use Rattle.road_graph.specs.declared.segment.Segment.{Segment}
use Rattle.road_graph.specs.declared.segment.Span.{Span}
use Rattle.road_graph.specs.declared.segment.Arrival.{Arrival}
use Rattle.road_graph.specs.Ranges.{default_values, AreInRange}

-- a network: the names of its nodes, its segments and its spans, each numbered by its place, from 0
pub record Roads : Type 0 where
  pub nodes : List (List ℕ)
  pub segments : List Segment
  pub spans : List Span

-- a network with nothing in it
abbrev pub no_roads : Roads
no_roads = record { nodes = []; segments = []; spans = [] }

-- whether a name is among these, byte by byte
abbrev pub has_name : List ℕ → List (List ℕ) → Bool
has_name name names = list_any (bytes_eq name) names

-- the number of the first of these names that has the bytes of `name`, if there is one
abbrev pub number_of : List ℕ → List (List ℕ) → Option ℕ
number_of name names = position (bytes_eq name) names

-- the names of some segments
abbrev pub segment_names : List Segment → List (List ℕ)
segment_names segments = map (λ s. s.name) segments

-- the names of some spans
abbrev pub span_names : List Span → List (List ℕ)
span_names spans = map (λ t. t.name) spans

-- what stands past the last segment: nothing
abbrev pub no_segment : Segment
no_segment = record { name = []; from = 0; to = 0; feet = 0; base = default_values }

-- what stands past the last span: nothing
abbrev pub no_span : Span
no_span = record { name = []; segment = 0; inches = 0; rating = 0 }

-- the segment of a number
abbrev pub segment_at : List Segment → ℕ → Segment
segment_at segments i = slice_index_or segments i no_segment

-- the span of a number
abbrev pub span_at : List Span → ℕ → Span
span_at spans i = slice_index_or spans i no_span

-- the elements that pass a test, each with its number, rising
abbrev pub numbered : {X : Type 0} → (X → Bool) → List X → List (ℕ × X)
numbered passes xs = filter (λ x. passes x.1) (enumerate_from 0 xs)

-- the numbers of the segments that begin at a node, rising
abbrev pub outgoing_of : List Segment → ℕ → List ℕ
outgoing_of segments node = map (λ x. x.0) (numbered (λ s. s.from == node) segments)

-- a segment as seen from its end
abbrev pub arrival_of : ℕ × Segment → Arrival
arrival_of x = record { segment = x.0; from = x.1.from; feet = x.1.feet }

-- the next segment as it will be seen from its end
abbrev pub next_arrival : List Segment → Segment → Arrival
next_arrival segments segment = arrival_of (length segments, segment)

-- the segments that end at a node, rising
abbrev pub incoming_of : List Segment → ℕ → List Arrival
incoming_of segments node = map arrival_of (numbered (λ s. s.to == node) segments)

-- the numbers of the spans of a segment, rising
abbrev pub spans_of : List Span → ℕ → List ℕ
spans_of spans segment = map (λ x. x.0) (numbered (λ t. t.segment == segment) spans)

-- these are the numbers of the segments that begin at the node, rising
pub record IsOutgoing (segments : List Segment) (node : ℕ) (numbers : List ℕ) : Type 0 where
  pub sound : (k i : ℕ) → slice_get numbers k ≡ Some i → (s : Segment) × (slice_get segments i ≡ Some s) × (s.from ≡ node)
  pub complete : (i : ℕ) (s : Segment) → slice_get segments i ≡ Some s → s.from ≡ node → (k : ℕ) × (slice_get numbers k ≡ Some i)
  pub rising : (j k a b : ℕ) → j < k → slice_get numbers j ≡ Some a → slice_get numbers k ≡ Some b → a < b

-- these are the segments that end at the node, each with its number, where it begins and its feet, rising by number
pub record IsIncoming (segments : List Segment) (node : ℕ) (arrivals : List Arrival) : Type 0 where
  pub sound : (k : ℕ) (a : Arrival) → slice_get arrivals k ≡ Some a → (s : Segment) × (slice_get segments a.segment ≡ Some s) × (s.to ≡ node) × (a.from ≡ s.from) × (a.feet ≡ s.feet)
  pub complete : (i : ℕ) (s : Segment) → slice_get segments i ≡ Some s → s.to ≡ node → (k : ℕ) × (a : Arrival) × (slice_get arrivals k ≡ Some a) × (a.segment ≡ i)
  pub rising : (j k : ℕ) (a b : Arrival) → j < k → slice_get arrivals j ≡ Some a → slice_get arrivals k ≡ Some b → a.segment < b.segment

-- these are the numbers of the spans of the segment, rising
pub record AreSpansOf (spans : List Span) (segment : ℕ) (numbers : List ℕ) : Type 0 where
  pub sound : (k i : ℕ) → slice_get numbers k ≡ Some i → (t : Span) × (slice_get spans i ≡ Some t) × (t.segment ≡ segment)
  pub complete : (i : ℕ) (t : Span) → slice_get spans i ≡ Some t → t.segment ≡ segment → (k : ℕ) × (slice_get numbers k ≡ Some i)
  pub rising : (j k a b : ℕ) → j < k → slice_get numbers j ≡ Some a → slice_get numbers k ≡ Some b → a < b

-- no name stands twice
pub record AreDistinct (names : List (List ℕ)) : Type 0 where
  pub once : (i j : ℕ) (name : List ℕ) → slice_get names i ≡ Some name → slice_get names j ≡ Some name → i ≡ j

-- a segment joins nodes that are there, and its length and its limits are in range
pub record IsSegment (nodes : ℕ) (s : Segment) : Type 0 where
  pub from : s.from < nodes
  pub to : s.to < nodes
  pub some : 1 ≤ s.feet
  pub far : s.feet ≤ 10000000
  pub base : AreInRange s.base

-- a span is on a segment that is there, and its length and its rating are in range
pub record IsSpan (segments : ℕ) (t : Span) : Type 0 where
  pub segment : t.segment < segments
  pub some : 1 ≤ t.inches
  pub long : t.inches ≤ 6000
  pub rating : t.rating ≤ 100000

-- the lists of a network: few enough, each segment and span in range, no name of a kind twice
pub record IsRoads (roads : Roads) : Type 0 where
  pub few_nodes : length roads.nodes ≤ 4096
  pub few_segments : length roads.segments ≤ 16384
  pub few_spans : length roads.spans ≤ 2048
  pub few_on : (i : ℕ) → length (spans_of roads.spans i) ≤ 16
  pub each : (i : ℕ) (s : Segment) → slice_get roads.segments i ≡ Some s → IsSegment (length roads.nodes) s
  pub each_span : (i : ℕ) (t : Span) → slice_get roads.spans i ≡ Some t → IsSpan (length roads.segments) t
  pub node_names : AreDistinct roads.nodes
  pub segment_names : AreDistinct (segment_names roads.segments)
  pub span_names : AreDistinct (span_names roads.spans)
