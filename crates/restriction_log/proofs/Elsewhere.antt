-- A change leaves the limits of other segments, and the ratings of their spans, as they were.
use Rattle.std.proofs.Common.{◌≡◌, ◌≢◌, ◌∷◌, ◌++◌, [], ℕ, List, false, take, drop, refl, ap, sym, ◌∙◌, get_or-set_other}
use Rattle.std.specs.Prelude.{◌==◌, fold}
use Rattle.std.proofs.lemmas.Bool.{or_parts, eqb-false}
use Rattle.std.proofs.lemmas.List.{take-append-drop}
use Rattle.std.proofs.lemmas.Option.{get_or_from_slice_get}
use Rattle.road_graph.specs.declared.segment.Span.{Span}
use Rattle.road_graph.specs.Ranges.{default_values, with_value}
use Rattle.road_graph.specs.Roads.{Roads, no_span, span_at}
use Rattle.restriction_log.specs.declared.change.Change.{Change}
use Rattle.restriction_log.specs.declared.change.Replaced.{Replaced}
use Rattle.restriction_log.specs.declared.change.Replaced.TheVariants as replaced
use Rattle.restriction_log.specs.Changes.{replaced_by, segment_in, touched, is_touched}
use Rattle.restriction_log.specs.States.{InForce, values_at, with_replaced, state_after, state_of, base_of, AgreeOn, AgreeSince}

-- what replaces a value elsewhere leaves the segment as it was, and each of its spans
agree-with : (roads : Roads) (segment : ℕ) (state : InForce) (r : Replaced) → segment ≢ segment_in roads r
    → AgreeOn roads segment state (with_replaced state r)
agree-with roads segment state (replaced.Limit other limit value) apart = record {
  values = get_or-set_other state.values other segment (with_value (values_at state.values other) limit value) default_values apart;
  ratings = λ i t at on. refl;
}
agree-with roads segment state (replaced.Rating span permille) apart = record {
  values = refl;
  ratings = λ i t at on.
      let here : span_at roads.spans i ≡ t = get_or_from_slice_get roads.spans i t no_span at in
      let far : i ≢ span = λ same. apart (sym on ∙ ap (λ (u : Span). u.segment) (sym here) ∙ ap (λ (k : ℕ). (span_at roads.spans k).segment) same) in
      get_or-set_other state.ratings span i permille 0 far;
}

-- one change that does not name the segment or a span of it
pub agree-after : (roads : Roads) (segment : ℕ) (state : InForce) (change : Change) → segment ≢ touched roads change
    → AgreeOn roads segment state (state_after state change)
agree-after roads segment state change = agree-with roads segment state (replaced_by change)

agree-trans : (roads : Roads) (segment : ℕ) (a b c : InForce) → AgreeOn roads segment a b → AgreeOn roads segment b c → AgreeOn roads segment a c
agree-trans roads segment a b c h k = record {
  values = k.values ∙ h.values;
  ratings = λ i t at on. k.ratings i t at on ∙ h.ratings i t at on;
}

-- changes of which none names the segment or a span of it
pub agree-fold : (roads : Roads) (segment : ℕ) (state : InForce) (changes : List Change) → is_touched roads segment changes ≡ false
    → AgreeOn roads segment state (fold state_after state changes)
agree-fold roads segment state [] none = record { values = refl; ratings = λ i t at on. refl }
agree-fold roads segment state (c ∷ cs) none =
    let both = or_parts (touched roads c == segment) (is_touched roads segment cs) none in
    let apart : segment ≢ touched roads c = λ same. eqb-false (touched roads c) segment both.0 (sym same) in
    agree-trans roads segment state (state_after state c) (fold state_after (state_after state c) cs)
    (agree-after roads segment state c apart) (agree-fold roads segment (state_after state c) cs both.1)

pub fold-append : (state : InForce) (xs ys : List Change) → fold state_after state (xs ++ ys) ≡ fold state_after (fold state_after state xs) ys
fold-append state [] ys = refl
fold-append state (x ∷ xs) ys = fold-append (state_after state x) xs ys

-- one posting more
pub state-posted : (roads : Roads) (changes : List Change) (change : Change) → state_of roads (changes ++ change ∷ []) ≡ state_after (state_of roads changes) change
state-posted roads changes change = fold-append (base_of roads) changes (change ∷ [])

-- where no posting above a number names the segment, its state is that of the number
pub agree-since : (roads : Roads) (segment n : ℕ) (changes : List Change) → is_touched roads segment (drop n changes) ≡ false
    → AgreeSince roads segment n changes
agree-since roads segment n changes none =
    let whole : fold state_after (state_of roads (take n changes)) (drop n changes) ≡ state_of roads changes =
    sym (fold-append (base_of roads) (take n changes) (drop n changes)) ∙ ap (state_of roads) (take-append-drop n changes) in
    rw (← whole) (agree-fold roads segment (state_of roads (take n changes)) (drop n changes) none)
