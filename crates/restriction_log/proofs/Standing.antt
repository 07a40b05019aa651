-- A state keeps its numbers of segments and spans, so it has what its network takes; and a network's states are of it: the
-- base, and each state after a change that the network takes.
use Rattle.std.proofs.Common.{◌≡◌, ◌∷◌, [], ℕ, ◌<◌, ◌≤◌, List, true, length, map, refl, ap, ◌∙◌, inl, inr, arith, length-set, get_or-set_same, get_or-set_other}
use Rattle.std.specs.Prelude.{nat_lt, fold, slice_set}
use Rattle.std.proofs.lemmas.Bool.{and_parts, ltb-true, leb-true, cases_eq}
use Rattle.std.proofs.lemmas.List.{length-map, get_or_past}
use Rattle.std.proofs.lemmas.List.Elements.{All-head, All-tail}
use Rattle.std.proofs.lemmas.Option.{get_or_from_slice_get, slice_get_cases}
use Rattle.road_graph.specs.declared.segment.Segment.{Segment}
use Rattle.road_graph.specs.declared.segment.Span.{Span}
use Rattle.road_graph.specs.Ranges.{is_limit, is_rating, with_value}
use Rattle.road_graph.specs.Roads.{Roads}
use Rattle.road_graph.proofs.Places.{get-map}
use Rattle.restriction_log.specs.declared.change.Change.{Change}
use Rattle.restriction_log.specs.declared.change.Replaced.{Replaced}
use Rattle.restriction_log.specs.declared.change.Replaced.TheVariants as replaced
use Rattle.restriction_log.specs.Changes.{takes, takes_replaced, replaced_by, AreTaken, has_segment}
use Rattle.restriction_log.specs.States.{InForce, AreOf, values_at, rating_at, with_replaced, state_after, state_of, base_of, has_replaced, is_named}
use Rattle.restriction_log.specs.Laws.{BaseIsOf, StaysOf, StateIsOf}

values_many_with : (state : InForce) (r : Replaced) → length (with_replaced state r).values ≡ length state.values
values_many_with state (replaced.Limit s limit x) = length-set state.values s (with_value (values_at state.values s) limit x)
values_many_with state (replaced.Rating t x) = refl

pub values_many_after : (state : InForce) (c : Change) → length (state_after state c).values ≡ length state.values
values_many_after state c = values_many_with state (replaced_by c)

ratings_many_with : (state : InForce) (r : Replaced) → length (with_replaced state r).ratings ≡ length state.ratings
ratings_many_with state (replaced.Limit s limit x) = refl
ratings_many_with state (replaced.Rating t x) = length-set state.ratings t x

pub ratings_many_after : (state : InForce) (c : Change) → length (state_after state c).ratings ≡ length state.ratings
ratings_many_after state c = ratings_many_with state (replaced_by c)

-- what a state has of the numbers of segments and spans of a network
has_by_count : (roads : Roads) (state : InForce) (r : Replaced) → length state.values ≡ length roads.segments → length state.ratings ≡ length roads.spans
    → takes_replaced roads r ≡ true → has_replaced state r ≡ true
has_by_count roads state (replaced.Limit s limit x) values ratings taken = ap (nat_lt s) values ∙ (and_parts (has_segment roads s) (is_limit limit x) taken).0
has_by_count roads state (replaced.Rating t x) values ratings taken = ap (nat_lt t) ratings ∙ (and_parts (nat_lt t (length roads.spans)) (is_rating x) taken).0

pub named_by_count : (roads : Roads) (state : InForce) (c : Change) → length state.values ≡ length roads.segments → length state.ratings ≡ length roads.spans
    → takes roads c ≡ true → is_named state c ≡ true
named_by_count roads state c = has_by_count roads state (replaced_by c)

-- before anything is posted
pub base_is_of : BaseIsOf
base_is_of roads is = record {
  values = length-map roads.segments (λ (s : Segment). s.base);
  ratings = length-map roads.spans (λ (t : Span). t.rating);
  in_range = λ i. elim (slice_get_cases roads.spans i).1 [
    | inl found ↦ (
        let (t, within, at, here) = found in
        let rated : rating_at (map (λ (t : Span). t.rating) roads.spans) i ≡ t.rating =
        get_or_from_slice_get (map (λ (t : Span). t.rating) roads.spans) i t.rating 0 (get-map (λ (t : Span). t.rating) roads.spans i t at) in
        rw rated (is.each_span i t at).rating
        )
    | inr past ↦ (
        let none : rating_at (map (λ (t : Span). t.rating) roads.spans) i ≡ 0 =
        get_or_past (map (λ (t : Span). t.rating) roads.spans) i 0 (rw (length-map roads.spans (λ (t : Span). t.rating)) past.0) in
        rw none (omega arith)
        )
  ];
}

-- a state of the network has what the network takes
pub named_of : (roads : Roads) (state : InForce) (change : Change) → AreOf roads state → takes roads change ≡ true → is_named state change ≡ true
named_of roads state change is taken = named_by_count roads state change is.values is.ratings taken

-- a rating in range keeps the others
rated : (ratings : List ℕ) (span permille i : ℕ) → span < length ratings → permille ≤ 100000 → rating_at ratings i ≤ 100000
    → rating_at (slice_set ratings span permille) i ≤ 100000
rated ratings span permille i within low before = elim (cases_eq i span) [
  | inl same ↦ rw (same, get_or-set_same ratings span permille 0 within) low
  | inr apart ↦ rw (get_or-set_other ratings span i permille 0 apart) before
]

in_range_with : (roads : Roads) (state : InForce) (r : Replaced) → AreOf roads state → takes_replaced roads r ≡ true
    → (i : ℕ) → rating_at (with_replaced state r).ratings i ≤ 100000
in_range_with roads state (replaced.Limit s limit x) is taken i = is.in_range i
in_range_with roads state (replaced.Rating span permille) is taken i =
    let parts = and_parts (nat_lt span (length roads.spans)) (is_rating permille) taken in
    let within : span < length state.ratings = omega (arith, ltb-true span (length roads.spans) parts.0, is.ratings) in
    rated state.ratings span permille i within (leb-true permille 100000 parts.1) (is.in_range i)

-- after a change that the network takes
pub stays_of : StaysOf
stays_of roads state change is taken = record {
  values = values_many_after state change ∙ is.values;
  ratings = ratings_many_after state change ∙ is.ratings;
  in_range = in_range_with roads state (replaced_by change) is taken;
}

of_fold : (roads : Roads) (changes : List Change) (state : InForce) → AreOf roads state → AreTaken roads changes
    → AreOf roads (fold state_after state changes)
of_fold roads [] state is taken = is
of_fold roads (c ∷ changes) state is taken = of_fold roads changes (state_after state c) (stays_of roads state c is (All-head (λ d. takes roads d ≡ true) c changes taken)) (All-tail (λ d. takes roads d ≡ true) c changes taken)

-- after all postings
pub state_is_of : StateIsOf
state_is_of roads changes is taken = of_fold roads changes (base_of roads) (base_is_of roads is) taken
