-- The records of the road network: the forms of the fields of each, and what it adds, or the first cause for which it is refused.
use Rattle.std.specs.Prelude.{not, nat_lt, [], ◌∷◌, length, Result, Ok}
use Rattle.road_graph.specs.Adding.{new_segment, network_with_limit, with_node, with_segment, with_span}
use Rattle.road_graph.specs.Ranges.{is_feet, is_inches, is_limit, is_rating}
use Rattle.road_graph.specs.Roads.{Roads, has_name, segment_names, span_names, spans_of, number_of as number_named}
use Rattle.day_text.specs.Causes.{◌>>=◌, demand, limit, or_bad}
use Rattle.day_text.specs.Forms.{Limit, Name, Number, said_in}
use Rattle.day_text.specs.Records.{Row}
use Rattle.day_text.specs.declared.refusal.Cause.{Cause}
use Rattle.day_text.specs.declared.refusal.RecordCause.TheVariants as bad
use Rattle.day_text.specs.declared.refusal.Kind.TheVariants as kind

-- node,NAME
unfoldable pub with_node_of : Roads → Row → Result Roads Cause
with_node_of roads fields = do
  (name, rest) ← said_in (Name ∷ []) fields
  a ← demand (not (has_name name roads.nodes)) bad.Same
  b ← limit (nat_lt (length roads.nodes) 4096) kind.Nodes
  Ok (with_node roads name)

-- segment,NAME,FROM,TO,FEET
unfoldable pub with_segment_of : Roads → Row → Result Roads Cause
with_segment_of roads fields = do
  (name, (from, (to, (feet, rest)))) ← said_in (Name ∷ Name ∷ Name ∷ Number ∷ []) fields
  a ← demand (not (has_name name (segment_names roads.segments))) bad.Same
  i ← or_bad (bad.Unknown 3) (number_named from roads.nodes)
  j ← or_bad (bad.Unknown 4) (number_named to roads.nodes)
  b ← demand (is_feet feet) (bad.Range 5)
  c ← limit (nat_lt (length roads.segments) 16384) kind.Segments
  Ok (with_segment roads (new_segment name i j feet))

-- limit,SEGMENT,WHAT,VALUE: the last record for a limit of a segment holds
unfoldable pub with_limit_of : Roads → Row → Result Roads Cause
with_limit_of roads fields = do
  (segment, (what, (value, rest))) ← said_in (Name ∷ Limit ∷ Number ∷ []) fields
  i ← or_bad (bad.Unknown 2) (number_named segment (segment_names roads.segments))
  a ← demand (is_limit what value) (bad.Range 4)
  Ok (network_with_limit roads i what value)

-- span,NAME,SEGMENT,INCHES,RATING
unfoldable pub with_span_of : Roads → Row → Result Roads Cause
with_span_of roads fields = do
  (name, (segment, (inches, (rating, rest)))) ← said_in (Name ∷ Name ∷ Number ∷ Number ∷ []) fields
  a ← demand (not (has_name name (span_names roads.spans))) bad.Same
  i ← or_bad (bad.Unknown 3) (number_named segment (segment_names roads.segments))
  b ← demand (is_inches inches) (bad.Range 4)
  c ← demand (is_rating rating) (bad.Range 5)
  e ← limit (nat_lt (length roads.spans) 2048) kind.Spans
  f ← limit (nat_lt (length (spans_of roads.spans i)) 16) kind.SpansOfSegment
  Ok (with_span roads (record { name = name; segment = i; inches = inches; rating = rating }))
