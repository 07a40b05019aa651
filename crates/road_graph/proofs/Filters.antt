-- The lists of a node and of a segment: which numbers they have, and what a new segment, span or limit does to them.
use Rattle.std.proofs.Common.{◌≡◌, ◌≢◌, ◌<◌, ◌∷◌, ◌++◌, [], ℕ, List, Some, Bool, true, length, map, set, refl, ap, sym, ◌∙◌, arith, eq-eqb}
use Rattle.std.specs.Prelude.{slice_get, ◌==◌}
use Rattle.std.proofs.lemmas.Bool.{eqb-true, ne_eqb}
use Rattle.road_graph.specs.declared.segment.Segment.{Segment}
use Rattle.road_graph.specs.declared.segment.Span.{Span}
use Rattle.road_graph.specs.declared.segment.Arrival.{Arrival}
use Rattle.road_graph.specs.declared.values.What.{What}
use Rattle.road_graph.specs.Roads.{outgoing_of, incoming_of, spans_of, arrival_of, IsOutgoing, IsIncoming, AreSpansOf}
use Rattle.road_graph.specs.Adding.{limited}
use Rattle.road_graph.proofs.Places.{get-map_some, get-map}
use Rattle.road_graph.proofs.Numbering.{listed-more, listed-same, listed-set, passing, passing-sound, passing-complete, passing-rising}

abbrev begins : ℕ → Segment → Bool
begins node s = s.from == node

abbrev ends : ℕ → Segment → Bool
ends node s = s.to == node

abbrev is_on : ℕ → Span → Bool
is_on segment t = t.segment == segment

module _ {X : Type 0} where
  abbrev number : ℕ × X → ℕ
  number x = x.0

  -- the numbers of what passes, for a test of a number
  pub numbers-sound : (p : X → Bool) (xs : List X) (k i : ℕ) → slice_get (map number (passing p 0 xs)) k ≡ Some i → (x : X) × (slice_get xs i ≡ Some x) × (p x ≡ true)
  numbers-sound p xs k i h =
      let (q, at, is) = get-map_some number (passing p 0 xs) k i h in
      let (m, e, here, passes) = passing-sound p 0 xs k q at in
      let same : m ≡ i = omega (arith, e, is) in
      (q.1, ap (slice_get xs) (sym same) ∙ here, passes)

  pub numbers-complete : (p : X → Bool) (xs : List X) (i : ℕ) (x : X) → slice_get xs i ≡ Some x → p x ≡ true → (k : ℕ) × (slice_get (map number (passing p 0 xs)) k ≡ Some i)
  numbers-complete p xs i x at passes =
      let (j, here) = passing-complete p 0 xs i x at passes i (omega arith) in (j, get-map number (passing p 0 xs) j (i, x) here)

  pub numbers-rising : (p : X → Bool) (xs : List X) (j k a b : ℕ) → j < k → slice_get (map number (passing p 0 xs)) j ≡ Some a → slice_get (map number (passing p 0 xs)) k ≡ Some b → a < b
  numbers-rising p xs j k a b less ha hb =
      let (q, qat, qis) = get-map_some number (passing p 0 xs) j a ha in
      let (r, rat, ris) = get-map_some number (passing p 0 xs) k b hb in
      let rise : q.0 < r.0 = passing-rising p 0 xs j k q r less qat rat in
      omega (arith, qis, ris, rise)

  -- a list with no first element is empty
  pub nil-from_first : (xs : List X) → ((x : X) → slice_get xs 0 ≡ Some x → ⊥) → xs ≡ []
  nil-from_first [] none = refl
  nil-from_first (x ∷ xs) none = absurd (none x refl)

pub outgoing_is : (segments : List Segment) (node : ℕ) → IsOutgoing segments node (outgoing_of segments node)
outgoing_is segments node = record {
  sound = λ k i h. let (s, at, passes) = numbers-sound (begins node) segments k i h in (s, at, eqb-true s.from node passes);
  complete = λ i s at from. numbers-complete (begins node) segments i s at (eq-eqb s.from node from);
  rising = numbers-rising (begins node) segments;
}

pub spans_are : (spans : List Span) (segment : ℕ) → AreSpansOf spans segment (spans_of spans segment)
spans_are spans segment = record {
  sound = λ k i h. let (t, at, passes) = numbers-sound (is_on segment) spans k i h in (t, at, eqb-true t.segment segment passes);
  complete = λ i t at on. numbers-complete (is_on segment) spans i t at (eq-eqb t.segment segment on);
  rising = numbers-rising (is_on segment) spans;
}

pub incoming_is : (segments : List Segment) (node : ℕ) → IsIncoming segments node (incoming_of segments node)
incoming_is segments node = record {
  sound = λ k a h.
      let (q, at, is) = get-map_some arrival_of (passing (ends node) 0 segments) k a h in
      let (m, e, here, passes) = passing-sound (ends node) 0 segments k q at in
      let number_is : q.0 ≡ a.segment = ap (λ (x : Arrival). x.segment) is in
      let same : m ≡ a.segment = omega (arith, e, number_is) in
      (q.1, ap (slice_get segments) (sym same) ∙ here, eqb-true q.1.to node passes, sym (ap (λ (x : Arrival). x.from) is), sym (ap (λ (x : Arrival). x.feet) is));
  complete = λ i s at to.
      let (j, here) = passing-complete (ends node) 0 segments i s at (eq-eqb s.to node to) i (omega arith) in
      (j, arrival_of (i, s), get-map arrival_of (passing (ends node) 0 segments) j (i, s) here, refl);
  rising = λ j k a b less ha hb.
      let (q, qat, qis) = get-map_some arrival_of (passing (ends node) 0 segments) j a ha in
      let (r, rat, ris) = get-map_some arrival_of (passing (ends node) 0 segments) k b hb in
      let rise : q.0 < r.0 = passing-rising (ends node) 0 segments j k q r less qat rat in
      let one : q.0 ≡ a.segment = ap (λ (x : Arrival). x.segment) qis in
      let two : r.0 ≡ b.segment = ap (λ (x : Arrival). x.segment) ris in
      omega (arith, rise, one, two);
}

-- no segment begins, none ends at a node that is not there, and no span is on a segment that is not there
pub outgoing-none : (segments : List Segment) (node : ℕ) → ((i : ℕ) (s : Segment) → slice_get segments i ≡ Some s → s.from < node) → outgoing_of segments node ≡ []
outgoing-none segments node far = nil-from_first (outgoing_of segments node)
    (λ i h. let (s, at, is) = (outgoing_is segments node).sound 0 i h in let less : s.from < node = far i s at in omega (arith, less, is))

pub incoming-none : (segments : List Segment) (node : ℕ) → ((i : ℕ) (s : Segment) → slice_get segments i ≡ Some s → s.to < node) → incoming_of segments node ≡ []
incoming-none segments node far = nil-from_first (incoming_of segments node)
    (λ a h. let (s, at, is, from, feet) = (incoming_is segments node).sound 0 a h in let less : s.to < node = far a.segment s at in omega (arith, less, is))

pub spans-none : (spans : List Span) (segment : ℕ) → ((i : ℕ) (t : Span) → slice_get spans i ≡ Some t → t.segment < segment) → spans_of spans segment ≡ []
spans-none spans segment far = nil-from_first (spans_of spans segment)
    (λ i h. let (t, at, is) = (spans_are spans segment).sound 0 i h in let less : t.segment < segment = far i t at in omega (arith, less, is))

-- one segment more
pub outgoing-more : (segments : List Segment) (s : Segment) → outgoing_of (segments ++ s ∷ []) s.from ≡ outgoing_of segments s.from ++ length segments ∷ []
outgoing-more segments s = listed-more number (begins s.from) segments s (eq-eqb s.from s.from refl)

pub outgoing-same : (segments : List Segment) (s : Segment) (node : ℕ) → node ≢ s.from → outgoing_of (segments ++ s ∷ []) node ≡ outgoing_of segments node
outgoing-same segments s node other = listed-same number (begins node) segments s (ne_eqb s.from node (λ e. other (sym e)))

pub incoming-more : (segments : List Segment) (s : Segment) → incoming_of (segments ++ s ∷ []) s.to ≡ incoming_of segments s.to ++ arrival_of (length segments, s) ∷ []
incoming-more segments s = listed-more arrival_of (ends s.to) segments s (eq-eqb s.to s.to refl)

pub incoming-same : (segments : List Segment) (s : Segment) (node : ℕ) → node ≢ s.to → incoming_of (segments ++ s ∷ []) node ≡ incoming_of segments node
incoming-same segments s node other = listed-same arrival_of (ends node) segments s (ne_eqb s.to node (λ e. other (sym e)))

-- one span more
pub spans-more : (spans : List Span) (t : Span) → spans_of (spans ++ t ∷ []) t.segment ≡ spans_of spans t.segment ++ length spans ∷ []
spans-more spans t = listed-more number (is_on t.segment) spans t (eq-eqb t.segment t.segment refl)

pub spans-same : (spans : List Span) (t : Span) (segment : ℕ) → segment ≢ t.segment → spans_of (spans ++ t ∷ []) segment ≡ spans_of spans segment
spans-same spans t segment other = listed-same number (is_on segment) spans t (ne_eqb t.segment segment (λ e. other (sym e)))

-- a limit changes no list
pub outgoing-limit : (segments : List Segment) (i : ℕ) (s : Segment) (what : What) (value node : ℕ) → slice_get segments i ≡ Some s
    → outgoing_of (set segments i (limited s what value)) node ≡ outgoing_of segments node
outgoing-limit segments i s what value node at = listed-set number (begins node) 0 i segments s (limited s what value) at refl (λ n. refl)

pub incoming-limit : (segments : List Segment) (i : ℕ) (s : Segment) (what : What) (value node : ℕ) → slice_get segments i ≡ Some s
    → incoming_of (set segments i (limited s what value)) node ≡ incoming_of segments node
incoming-limit segments i s what value node at = listed-set arrival_of (ends node) 0 i segments s (limited s what value) at refl (λ n. refl)
