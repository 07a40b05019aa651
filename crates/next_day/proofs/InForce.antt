-- Roads as they are in force: what is in force on them with nothing posted, their walks, and the limits that fail on them.
use Rattle.std.proofs.Common.{◌≡◌, ◌∷◌, ◌++◌, [], ℕ, zero, suc, ◌+◌, List, map, length, get_or, refl, ap, sym, ◌∙◌, Some, inl, inr, arith, append_assoc}
use Rattle.std.specs.Prelude.{slice_get}
use Rattle.std.specs.List.{enumerate_from}
use Rattle.std.specs.Option.{option_or}
use Rattle.std.proofs.lemmas.List.{get_or_past, length-append}
use Rattle.std.proofs.lemmas.Option.{get_or_from_slice_get, same_Some, slice_get_cases}
use Rattle.std.proofs.Math.Seq.{get_or-append_seam}
use Rattle.axle_train.specs.declared.axle.Axle.{Axle}
use Rattle.road_graph.specs.declared.segment.Segment.{Segment}
use Rattle.road_graph.specs.declared.segment.Span.{Span}
use Rattle.road_graph.specs.Ranges.{default_values}
use Rattle.road_graph.specs.Roads.{Roads, no_span, span_at, spans_of}
use Rattle.restriction_log.specs.States.{AreOf, InForce, base_of, rating_at, values_at}
use Rattle.route_search.specs.Walks.{IsWalk, every}
use Rattle.clearance_rules.specs.Loads.{LoadParts}
use Rattle.clearance_rules.specs.Limits.{first_of_spans, limit_of, posted_limit, span_limit, weights_limit}
use Rattle.day_writer.specs.Sheets.{roads_in_force, segment_in_force, span_in_force}
use Rattle.next_day.proofs.RoadsStay.{same_length, spans_stay}

-- what each element has as its own is what stands at its place
each_own : {X Z Y : Type 0} (f : ℕ × X → Z) (g : Z → Y) (all : List Y) (d : Y) → ((x : ℕ × X) → g (f x) ≡ get_or all x.0 d)
    → (xs : List X) (n : ℕ) (before ys : List Y) → n ≡ length before → all ≡ before ++ ys → length ys ≡ length xs → map g (map f (enumerate_from n xs)) ≡ ys
each_own f g all d own [] n before [] place is many = refl
each_own f g all d own [] n before (y ∷ ys) place is many = absurd (omega (arith, many))
each_own f g all d own (x ∷ xs) n before [] place is many = absurd (omega (arith, many))
each_own f g all d own (x ∷ xs) n before (y ∷ ys) place is many =
    let here : g (f (n, x)) ≡ y = own (n, x) ∙ (ap (λ k. get_or all k d) place ∙ (ap (λ l. get_or l (length before) d) is ∙ get_or-append_seam before y ys d)) in
    let rest : map g (map f (enumerate_from (n + 1) xs)) ≡ ys = each_own f g all d own xs (n + 1) (before ++ y ∷ []) ys
    (omega (arith, place, length-append before (y ∷ []))) (is ∙ sym (append_assoc before (y ∷ []) ys)) (omega (arith, many)) in
    λ i. here i ∷ rest i

-- what is in force on the roads as they are in force is what was in force
pub base_is : (roads : Roads) (state : InForce) → AreOf roads state → base_of (roads_in_force roads state) ≡ state
base_is roads state is =
    let values = each_own (segment_in_force state) (λ (s : Segment). s.base) state.values default_values (λ x. refl) roads.segments 0 [] state.values refl refl is.values in
    let ratings = each_own (span_in_force state) (λ (t : Span). t.rating) state.ratings 0 (λ x. refl) roads.spans 0 [] state.ratings refl refl is.ratings in
    λ i. record { values = values i; ratings = ratings i }

-- an element with its place
numbered_at : {X Z : Type 0} (f : ℕ × X → Z) (n : ℕ) (xs : List X) (i j : ℕ) (x : X) → j ≡ n + i → slice_get xs i ≡ Some x → slice_get (map f (enumerate_from n xs)) i ≡ Some (f (j, x))
numbered_at f n [] i j x place at = cc
numbered_at f n (y ∷ ys) zero j x place at = let k : n ≡ j = omega (arith, place) in let same = same_Some y x at in λ i. Some (f (k i, same i))
numbered_at f n (y ∷ ys) (suc i) j x place at = numbered_at f (n + 1) ys i j x (omega (arith, place)) at

-- a walk is a walk whatever is in force
pub same_walk : (roads : Roads) (state : InForce) (a b : ℕ) (path : List ℕ) → IsWalk roads.segments every a b path → IsWalk (roads_in_force roads state).segments every a b path
same_walk roads state a b [] walk = walk
same_walk roads state a b (i ∷ path) (s, at, may, from, rest) =
    (segment_in_force state (i, s), numbered_at (segment_in_force state) 0 roads.segments i i s (omega arith) at, may, from, same_walk roads state s.to b path rest)

-- a span is as long
same_inches : (state : InForce) (spans : List Span) (i : ℕ) → (span_at (map (span_in_force state) (enumerate_from 0 spans)) i).inches ≡ (span_at spans i).inches
same_inches state spans i = elim (slice_get_cases spans i).1 [
  | inl (t, within, at, here) ↦ (
      let new = get_or_from_slice_get (map (span_in_force state) (enumerate_from 0 spans)) i (span_in_force state (i, t)) no_span (numbered_at (span_in_force state) 0 spans i i t (omega arith) at) in
      let old = get_or_from_slice_get spans i t no_span at in
      ap (λ (x : Span). x.inches) new ∙ sym (ap (λ (x : Span). x.inches) old)
      )
  | inr (past, none) ↦ (
      let many = same_length (span_in_force state) spans in
      let new = get_or_past (map (span_in_force state) (enumerate_from 0 spans)) i no_span (omega (arith, many, past)) in
      let old = get_or_past spans i no_span past in
      ap (λ (x : Span). x.inches) new ∙ sym (ap (λ (x : Span). x.inches) old)
      )
]

module _ (roads : Roads) (state : InForce) where
  same_first : (axles : List Axle) (s : ℕ) (list : List ℕ) → first_of_spans (roads_in_force roads state) state axles s list ≡ first_of_spans roads state axles s list
  same_first axles s [] = refl
  same_first axles s (span ∷ list) =
      let here = ap (λ inches. span_limit axles inches (rating_at state.ratings span) s span) (same_inches state roads.spans span) in
      let rest = same_first axles s list in
      λ i. option_or (here i) (rest i)

  -- the first limit that fails a load is the same
  pub same_limit : (load : LoadParts) (s : ℕ) → limit_of (roads_in_force roads state) state load s ≡ limit_of roads state load s
  unfolding limit_of
  same_limit load s =
      let spans = ap (first_of_spans (roads_in_force roads state) state load.train s) (spans_stay roads state s) ∙ same_first load.train s (spans_of roads.spans s) in
      ap (λ o. option_or (posted_limit (values_at state.values s) load s) (option_or (weights_limit (values_at state.values s) load s) o)) spans
