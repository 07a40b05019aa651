-- Roads with what is in force on them as their own are roads within their bounds.
use Rattle.std.proofs.Common.{◌≡◌, ◌≤◌, ◌+◌, ◌∷◌, [], ℕ, suc, zero, Bool, true, false, cond, List, Some, length, map, refl, ap, sym, subst, ◌∙◌, arith}
use Rattle.std.specs.Prelude.{slice_get, filter, ◌==◌}
use Rattle.std.specs.List.{enumerate_from}
use Rattle.std.proofs.lemmas.List.{length-map}
use Rattle.std.proofs.lemmas.List.FromFn.{length-enumerate_from}
use Rattle.road_graph.specs.Ranges.{AreInRange}
use Rattle.road_graph.specs.Roads.{AreDistinct, IsRoads, IsSegment, IsSpan, Roads, segment_names, span_names, spans_of}
use Rattle.road_graph.specs.declared.segment.Segment.{Segment}
use Rattle.road_graph.specs.declared.segment.Span.{Span}
use Rattle.road_graph.proofs.Places.{get-map_some}
use Rattle.restriction_log.specs.States.{AreOf, InForce, values_at}
use Rattle.day_writer.specs.Sheets.{roads_in_force, segment_in_force, span_in_force}

module _ {X : Type 0} where
  -- what stands in a numbered list is what stood there, with its number
  pub numbered_was : (k : ℕ) (xs : List X) (i : ℕ) (q : ℕ × X) → slice_get (enumerate_from k xs) i ≡ Some q → (q.0 ≡ k + i) × (slice_get xs i ≡ Some q.1)
  numbered_was k [] i q h = cc
  numbered_was k (x ∷ xs) zero q h = let is : (k, x) ≡ q = cc in (ap (λ (p : ℕ × X). p.0) (sym is) ∙ omega arith, ap (λ (p : ℕ × X). Some p.1) is)
  numbered_was k (x ∷ xs) (suc i) q h = let r = numbered_was (k + 1) xs i q h in (omega (arith, r.0), r.1)

  -- what is the same of each element is the same of all
  pub same_map : {Y : Type 0} (f : ℕ × X → X) (g : X → Y) → ((x : ℕ × X) → g (f x) ≡ g x.1) → (k : ℕ) (xs : List X) → map g (map f (enumerate_from k xs)) ≡ map g xs
  same_map f g same k [] = refl
  same_map f g same k (x ∷ xs) = ap (λ (y : _). y ∷ map g (map f (enumerate_from (k + 1) xs))) (same (k, x)) ∙ ap (λ (ys : List _). g x ∷ ys) (same_map f g same (k + 1) xs)

  pub same_length : (f : ℕ × X → X) (xs : List X) → length (map f (enumerate_from 0 xs)) ≡ length xs
  same_length f xs = length-map (enumerate_from 0 xs) f ∙ length-enumerate_from 0 xs

  -- those that pass have the same numbers
  abbrev numbers : (X → Bool) → ℕ → List X → List ℕ
  numbers p k xs = map (λ x. x.0) (filter (λ x. p x.1) (enumerate_from k xs))

  pub same_numbers : (f : ℕ × X → X) (p : X → Bool) → ((x : ℕ × X) → p (f x) ≡ p x.1) → (j k : ℕ) (xs : List X) → numbers p k (map f (enumerate_from j xs)) ≡ numbers p k xs
  same_numbers f p same j k [] = refl
  same_numbers f p same j k (x ∷ xs) =
      let rest = filter (λ (z : ℕ × X). p z.1) (enumerate_from (k + 1) (map f (enumerate_from (j + 1) xs))) in
      let behind = filter (λ (z : ℕ × X). p z.1) (enumerate_from (k + 1) xs) in
      let go : map (λ z. z.0) rest ≡ map (λ z. z.0) behind = same_numbers f p same (j + 1) (k + 1) xs in
      by (p (f (j, x))) (p x) (same (j, x)) rest behind go
    where
      by : (a b : Bool) → a ≡ b → (rest behind : List (ℕ × X)) → map (λ z. z.0) rest ≡ map (λ z. z.0) behind
          → map (λ z. z.0) (cond a ((k, f (j, x)) ∷ rest) rest) ≡ map (λ z. z.0) (cond b ((k, x) ∷ behind) behind)
      by true true is rest behind go = ap (λ (ns : List ℕ). k ∷ ns) go
      by false false is rest behind go = go
      by true false is rest behind go = absurd (cc)
      by false true is rest behind go = absurd (cc)

module _ (roads : Roads) (state : InForce) where
  abbrev New : Roads
  New = roads_in_force roads state

  pub names_stay : segment_names New.segments ≡ segment_names roads.segments
  names_stay = same_map (segment_in_force state) (λ (s : Segment). s.name) (λ x. refl) 0 roads.segments

  pub span_names_stay : span_names New.spans ≡ span_names roads.spans
  span_names_stay = same_map (span_in_force state) (λ (t : Span). t.name) (λ x. refl) 0 roads.spans

  pub segments_many : length New.segments ≡ length roads.segments
  segments_many = same_length (segment_in_force state) roads.segments

  pub spans_many : length New.spans ≡ length roads.spans
  spans_many = same_length (span_in_force state) roads.spans

  pub spans_stay : (segment : ℕ) → spans_of New.spans segment ≡ spans_of roads.spans segment
  spans_stay segment = same_numbers (span_in_force state) (λ (t : Span). t.segment == segment) (λ x. refl) 0 0 roads.spans

  -- what a segment and a span come from
  pub segment_from : (i : ℕ) (s : Segment) → slice_get New.segments i ≡ Some s → (was : Segment) × (slice_get roads.segments i ≡ Some was) × (s ≡ segment_in_force state (i, was))
  segment_from i s h =
      let (q, at, is) = get-map_some (segment_in_force state) (enumerate_from 0 roads.segments) i s h in
      let (number, was) = numbered_was 0 roads.segments i q at in
      let here : q.0 ≡ i = omega (arith, number) in
      (q.1, was, sym is ∙ ap (λ (n : ℕ). segment_in_force state (n, q.1)) here)

  pub span_from : (i : ℕ) (t : Span) → slice_get New.spans i ≡ Some t → (was : Span) × (slice_get roads.spans i ≡ Some was) × (t ≡ span_in_force state (i, was))
  span_from i t h =
      let (q, at, is) = get-map_some (span_in_force state) (enumerate_from 0 roads.spans) i t h in
      let (number, was) = numbered_was 0 roads.spans i q at in
      let here : q.0 ≡ i = omega (arith, number) in
      (q.1, was, sym is ∙ ap (λ (n : ℕ). span_in_force state (n, q.1)) here)

  pub roads_stay : IsRoads roads → AreOf roads state → ((i : ℕ) → AreInRange (values_at state.values i)) → IsRoads New
  roads_stay h of in_range = record {
    few_nodes = h.few_nodes;
    few_segments = omega (arith, h.few_segments, segments_many);
    few_spans = omega (arith, h.few_spans, spans_many);
    few_on = λ i. subst (λ (ns : List ℕ). length ns ≤ 16) (sym (spans_stay i)) (h.few_on i);
    each = λ i s at. (
        let (was, here, is) = segment_from i s at in
        let old = h.each i was here in
        subst (IsSegment (length roads.nodes)) (sym is) (record { from = old.from; to = old.to; some = old.some; far = old.far; base = in_range i })
        );
    each_span = λ i t at. (
        let (was, here, is) = span_from i t at in
        let old = h.each_span i was here in
        subst (IsSpan (length New.segments)) (sym is)
        (record { segment = omega (arith, old.segment, segments_many); some = old.some; long = old.long; rating = of.in_range i })
        );
    node_names = h.node_names;
    segment_names = subst AreDistinct (sym names_stay) h.segment_names;
    span_names = subst AreDistinct (sym span_names_stay) h.span_names;
  }
