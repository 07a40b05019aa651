-- What each call adds to a network, and why it may refuse.
use Rattle.std.specs.Prelude.{◌≡◌, ℕ, not, ◌&&◌, nat_lt, nat_le, List, [], ◌∷◌, ◌++◌, length, slice_set, Option, Some, None, if◌then◌else◌}
use Rattle.road_graph.specs.declared.segment.Segment.{Segment}
use Rattle.road_graph.specs.declared.segment.Span.{Span}
use Rattle.road_graph.specs.declared.values.What.{What}
use Rattle.road_graph.specs.declared.refusal.AddRefusal.{AddRefusal}
use Rattle.road_graph.specs.declared.refusal.AddRefusal.TheVariants.{SameName, UnknownNode, UnknownSegment, Range, TooMany, NoMemory}
use Rattle.road_graph.specs.Ranges.{default_values, is_feet, is_inches, is_rating, is_limit, with_value}
use Rattle.road_graph.specs.Roads.{Roads, has_name, segment_names, span_names, segment_at, spans_of}

-- the network with one node more
abbrev pub with_node : Roads → List ℕ → Roads
with_node roads name = record roads { nodes = roads.nodes ++ name ∷ [] }

-- a segment on which no limit is set
abbrev pub new_segment : List ℕ → ℕ → ℕ → ℕ → Segment
new_segment name from to feet = record { name = name; from = from; to = to; feet = feet; base = default_values }

-- the network with one segment more
abbrev pub with_segment : Roads → Segment → Roads
with_segment roads s = record roads { segments = roads.segments ++ s ∷ [] }

-- a span
abbrev pub new_span : List ℕ → ℕ → ℕ → ℕ → Span
new_span name segment inches rating = record { name = name; segment = segment; inches = inches; rating = rating }

-- the network with one span more
abbrev pub with_span : Roads → Span → Roads
with_span roads t = record roads { spans = roads.spans ++ t ∷ [] }

-- the segment with one limit replaced
abbrev pub limited : Segment → What → ℕ → Segment
limited s what value = record s { base = with_value s.base what value }

-- the segments with one limit of one of them replaced
abbrev pub segments_limited : List Segment → ℕ → What → ℕ → List Segment
segments_limited segments i what value = slice_set segments i (limited (segment_at segments i) what value)

-- the network with one limit of one segment replaced
abbrev pub network_with_limit : Roads → ℕ → What → ℕ → Roads
network_with_limit roads i what value =
    record roads { segments = segments_limited roads.segments i what value }

-- the first cause, in this order, for which a node is refused: its name is taken, or there are 4,096 nodes
abbrev pub node_refusal : Roads → List ℕ → Option AddRefusal
node_refusal roads name =
    if has_name name roads.nodes then Some SameName
    else (if nat_le 4096 (length roads.nodes) then Some TooMany else None)

-- the first cause, in this order, for which a segment is refused: its name is taken, an end is no node, its length is out of
-- range, or there are 16,384 segments
abbrev pub segment_refusal : Roads → List ℕ → ℕ → ℕ → ℕ → Option AddRefusal
segment_refusal roads name from to feet =
    if has_name name (segment_names roads.segments) then Some SameName
    else (if not (nat_lt from (length roads.nodes) && nat_lt to (length roads.nodes)) then Some UnknownNode
    else (if not (is_feet feet) then Some Range
    else (if nat_le 16384 (length roads.segments) then Some TooMany else None)))

-- the first cause, in this order, for which a span is refused: its name is taken, there is no such segment, its length or its
-- rating is out of range, or there are 2,048 spans or 16 on that segment
abbrev pub span_refusal : Roads → List ℕ → ℕ → ℕ → ℕ → Option AddRefusal
span_refusal roads name segment inches rating =
    if has_name name (span_names roads.spans) then Some SameName
    else (if not (nat_lt segment (length roads.segments)) then Some UnknownSegment
    else (if not (is_inches inches && is_rating rating) then Some Range
    else (if nat_le 2048 (length roads.spans) then Some TooMany
    else (if nat_le 16 (length (spans_of roads.spans segment)) then Some TooMany else None))))

-- the first cause, in this order, for which a limit is refused: there is no such segment, or the value is out of range
abbrev pub limit_refusal : Roads → ℕ → What → ℕ → Option AddRefusal
limit_refusal roads segment what value =
    if not (nat_lt segment (length roads.segments)) then Some UnknownSegment
    else (if not (is_limit what value) then Some Range else None)

-- the refusal is the first cause that applies; that no memory was left comes only where none applies
abbrev pub IsAddCause : Option AddRefusal → AddRefusal → Type 0
IsAddCause cause NoMemory = cause ≡ None
IsAddCause cause refusal = cause ≡ Some refusal
