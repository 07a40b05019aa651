-- Where a route breaks off, the walk along it does.
use Rattle.std.proofs.Common.{◌≡◌, ◌≢◌, ◌+◌, ◌<◌, ◌∷◌, ◌==◌, [], ℕ, zero, suc, List, Bool, cond, true, false, length, refl, ap, sym, ◌∙◌, subst, arith, Some, None}
use Rattle.std.specs.Prelude.{slice_get}
use Rattle.std.specs.List.{AllByRecursion as ByRecursion}
use Rattle.std.proofs.lemmas.Bool.{eq-eqb, eqb-false, eqb-true, ne_eqb}
use Rattle.std.proofs.lemmas.List.Elements.{recursion_from_All}
use Rattle.std.proofs.lemmas.Option.{get_or_from_slice_get, slice_get-get_or}
use Rattle.road_graph.specs.declared.segment.Segment.{Segment}
use Rattle.road_graph.specs.Roads.{no_segment, segment_at}
use Rattle.route_search.specs.Walks.{IsWalk, every}
use Rattle.trip_analysis.specs.Applications.{break_from}
use Rattle.trip_analysis.specs.ApplicationLaws.{BreaksAreFirst, IsBreak, WalksAreUnbroken}
use Rattle.trip_analysis.proofs.Unbroken.{unbroken_walks}

-- where the first segment begins here, a route breaks off where the rest of it does
begins_here : (segments : List Segment) (start from to i : ℕ) (path : List ℕ) (s : Segment) → slice_get segments i ≡ Some s → s.from ≡ from → break_from segments start from to (i ∷ path) ≡ break_from segments (start + 1) s.to to path
begins_here segments start from to i path s at begins =
    let same : segment_at segments i ≡ s = get_or_from_slice_get segments i s no_segment at in
    subst (λ (t : Segment). cond (t.from == from) (break_from segments (start + 1) t.to to path) (Some start) ≡ break_from segments (start + 1) s.to to path) (sym same)
    (ap (λ b. cond b (break_from segments (start + 1) s.to to path) (Some start)) (eq-eqb s.from from begins))

pub walk_unbroken : (segments : List Segment) (start from to : ℕ) (route : List ℕ) → IsWalk segments every from to route → break_from segments start from to route ≡ None
walk_unbroken segments start from to [] walk = ap (λ b. cond b None (Some start)) (eq-eqb from to walk)
walk_unbroken segments start from to (i ∷ path) walk =
    let (s, at, may, begins, rest) = walk in begins_here segments start from to i path s at begins ∙ walk_unbroken segments (start + 1) s.to to path rest

pub walks_are_unbroken : WalksAreUnbroken
walks_are_unbroken segments from to route there =
    (unbroken_walks segments 0 from to route (recursion_from_All (λ s. s < length segments) route there), walk_unbroken segments 0 from to route)

-- a place counted from the start is a break of the route
abbrev BreaksAt : List Segment → ℕ → ℕ → ℕ → List ℕ → ℕ → Type 0
BreaksAt segments start from to route at = (k : ℕ) × (at ≡ start + k) × IsBreak segments from to route k

end_breaks : (segments : List Segment) (start from to at : ℕ) (b : Bool) → (from == to) ≡ b → cond b None (Some start) ≡ Some at → BreaksAt segments start from to [] at
end_breaks segments start from to at true is e = absurd (cc)
end_breaks segments start from to at false is e =
    let same : start ≡ at = cc in
    (0, omega (arith, same), record { within = omega arith; node = from; walk = refl; next = λ i there. absurd (cc); end = λ none. eqb-false from to is })

-- one segment more in front
longer : (segments : List Segment) (start from to i : ℕ) (path : List ℕ) (at : ℕ) (s : Segment) → slice_get segments i ≡ Some s → s.from ≡ from → BreaksAt segments (start + 1) s.to to path at → BreaksAt segments start from to (i ∷ path) at
longer segments start from to i path at s here begins (k, place, b) = (
  suc k,
  omega (arith, place),
  record {
    within = omega (arith, b.within);
    node = b.node;
    walk = (s, here, refl, begins, b.walk);
    next = λ j there. b.next j there;
    end = λ none. b.end (omega (arith, none));
  },
)

gap_breaks : (segments : List Segment) (start from to i : ℕ) (path : List ℕ) (at : ℕ) → (segment_at segments i).from ≢ from → Some start ≡ Some at → BreaksAt segments start from to (i ∷ path) at
gap_breaks segments start from to i path at apart e =
    let same : start ≡ at = cc in (
      0,
      omega (arith, same),
      record {
        within = omega arith;
        node = from;
        walk = refl;
        next = λ j there. let is : i ≡ j = cc in subst (λ (n : ℕ). (segment_at segments n).from ≢ from) is apart;
        end = λ none. absurd (omega (arith, none));
      },
    )

breaks_at : (segments : List Segment) (start from to : ℕ) (route : List ℕ) (at : ℕ) → ByRecursion (λ s. s < length segments) route → break_from segments start from to route ≡ Some at → BreaksAt segments start from to route at
breaks_at segments start from to [] at there e = end_breaks segments start from to at (from == to) refl e
breaks_at segments start from to (i ∷ path) at there e =
    let here = segment_at segments i in
    more segments start from to i path at there.0 (breaks_at segments (start + 1) here.to to path at there.1) (here.from == from) refl e
  where
    more : (segments : List Segment) (start from to i : ℕ) (path : List ℕ) (at : ℕ) → i < length segments
        → (break_from segments (start + 1) (segment_at segments i).to to path ≡ Some at → BreaksAt segments (start + 1) (segment_at segments i).to to path at)
        → (b : Bool) → ((segment_at segments i).from == from) ≡ b → cond b (break_from segments (start + 1) (segment_at segments i).to to path) (Some start) ≡ Some at → BreaksAt segments start from to (i ∷ path) at
    more segments start from to i path at within h true is e =
        longer segments start from to i path at (segment_at segments i) (slice_get-get_or segments i no_segment within) (eqb-true (segment_at segments i).from from is) (h e)
    more segments start from to i path at within h false is e = gap_breaks segments start from to i path at (eqb-false (segment_at segments i).from from is) e

at_break : (segments : List Segment) (start from to : ℕ) (route : List ℕ) (k : ℕ) → IsBreak segments from to route k → break_from segments start from to route ≡ Some (start + k)
at_break segments start from to [] zero h =
    let ends : from ≢ to = subst (λ (n : ℕ). n ≢ to) (sym h.walk) (h.end refl) in
    let place : start ≡ start + 0 = omega arith in
    ap (λ b. cond b None (Some start)) (ne_eqb from to ends) ∙ ap (λ (n : ℕ). Some n) place
at_break segments start from to [] (suc k) h = absurd (omega (arith, h.within))
at_break segments start from to (i ∷ path) zero h =
    let apart : (segment_at segments i).from ≢ from = subst (λ (n : ℕ). (segment_at segments i).from ≢ n) (sym h.walk) (h.next i refl) in
    let place : start ≡ start + 0 = omega arith in
    ap (λ b. cond b (break_from segments (start + 1) (segment_at segments i).to to path) (Some start)) (ne_eqb (segment_at segments i).from from apart) ∙ ap (λ (n : ℕ). Some n) place
at_break segments start from to (i ∷ path) (suc k) h =
    let (s, at, may, begins, rest) = h.walk in
    let shorter : IsBreak segments s.to to path k = record { within = omega (arith, h.within); node = h.node; walk = rest; next = λ j there. h.next j there; end = λ none. h.end (omega (arith, none)) } in
    let place : start + 1 + k ≡ start + suc k = omega arith in
    begins_here segments start from to i path s at begins ∙ (at_break segments (start + 1) s.to to path k shorter ∙ ap (λ (n : ℕ). Some n) place)

pub breaks_are_first : BreaksAreFirst
breaks_are_first segments from to route at there = (forth, back)
  where
    forth : break_from segments 0 from to route ≡ Some at → IsBreak segments from to route at
    forth e =
        let (k, place, b) = breaks_at segments 0 from to route at (recursion_from_All (λ s. s < length segments) route there) e in
        let same : k ≡ at = omega (arith, place) in
        subst (IsBreak segments from to route) same b

    back : IsBreak segments from to route at → break_from segments 0 from to route ≡ Some at
    back h = let place : 0 + at ≡ at = omega arith in at_break segments 0 from to route at h ∙ ap (λ (n : ℕ). Some n) place
