-- What findings mean on the road.
use Rattle.std.proofs.Common.{◌≡◌, ◌<◌, ◌∷◌, [], ℕ, List, Bool, true, length, refl, ap, sym, ◌∙◌, subst, inl, inr, Option, Some, None}
use Rattle.std.specs.Prelude.{is_none}
use Rattle.std.specs.List.{All, AllByRecursion as ByRecursion, concat}
use Rattle.std.proofs.lemmas.Bool.{cases_Bool}
use Rattle.std.proofs.lemmas.List.Elements.{All-cons, All-from_recursion, All-nil}
use Rattle.restriction_log.specs.States.{InForce}
use Rattle.road_graph.specs.declared.segment.Segment.{Segment}
use Rattle.road_graph.proofs.Places.{get_within}
use Rattle.route_search.specs.declared.shortest.Shortest.{Shortest}
use Rattle.route_search.specs.declared.shortest.Shortest.TheVariants as shortest
use Rattle.route_search.specs.Walks.{AreReached, CanReach, IsRoute, IsWalk, every, flagged}
use Rattle.route_search.specs.Founds.{IsShortest}
use Rattle.trip_analysis.specs.declared.application.Application.{Application}
use Rattle.trip_analysis.specs.declared.failing.Failing.{Failing}
use Rattle.trip_analysis.specs.declared.finding.What.{What}
use Rattle.trip_analysis.specs.declared.finding.What.TheVariants as what
use Rattle.trip_analysis.specs.Bases.{BaseLists}
use Rattle.trip_analysis.specs.Passing.{Limit, first_on, first_or, flags_of, is_passable, limit_for, needs_none}
use Rattle.trip_analysis.specs.Findings.{IsFinding, IsFoundBy, asked_finding, proposed_of}
use Rattle.trip_analysis.specs.Laws.{AskedRoutesFailFirst, AskedRoutesMeet, CutsLetNoneThrough, IsCut, IsFirstFailing, RoutesAreFirstOfShortest}
use Rattle.trip_analysis.proofs.Flagged.{flag_is}

-- a segment that is there and passes the first test passes the second
abbrev Allows : List Segment → (ℕ → Bool) → (ℕ → Bool) → Type 0
Allows segments may can = (i : ℕ) → i < length segments → may i ≡ true → can i ≡ true

-- a walk depends on the test only at segments that are there
walk_by : (segments : List Segment) (may can : ℕ → Bool) (a b : ℕ) (path : List ℕ) → Allows segments may can → IsWalk segments may a b path → IsWalk segments can a b path
walk_by segments may can a b [] f walk = walk
walk_by segments may can a b (i ∷ path) f walk =
    let (s, at, may1, from, rest) = walk in (s, at, f i (get_within segments i s at) may1, from, walk_by segments may can s.to b path f rest)

route_by : (segments : List Segment) (may can : ℕ → Bool) (a b : ℕ) (path : List ℕ) → Allows segments may can → Allows segments can may → IsRoute segments may a b path → IsRoute segments can a b path
route_by segments may can a b path f g h = record {
  walk = walk_by segments may can a b path f h.walk;
  least = λ other walk. h.least other (walk_by segments can may a b other g walk);
  first = λ other walk same. h.first other (walk_by segments can may a b other g walk) same;
}

reach_by : (segments : List Segment) (may can : ℕ → Bool) (a b : ℕ) → Allows segments may can → CanReach segments may a b → CanReach segments can a b
reach_by segments may can a b f (path, walk) = (path, walk_by segments may can a b path f walk)

reached_by : (segments : List Segment) (may can : ℕ → Bool) (a : ℕ) (nodes : List ℕ) → Allows segments may can → Allows segments can may → AreReached segments may a nodes → AreReached segments can a nodes
reached_by segments may can a nodes f g h = record {
  rising = h.rising;
  sound = λ k v at. reach_by segments may can a v f (h.sound k v at);
  complete = λ v reach. h.complete v (reach_by segments can may a v g reach);
}

flags_allow : (base : BaseLists) (state : InForce) (truck : ℕ) → Allows base.roads.segments (flagged (flags_of base state truck)) (is_passable base state truck)
flags_allow base state truck i within may = sym (flag_is base state truck i within) ∙ may

allow_flags : (base : BaseLists) (state : InForce) (truck : ℕ) → Allows base.roads.segments (is_passable base state truck) (flagged (flags_of base state truck))
allow_flags base state truck i within may = flag_is base state truck i within ∙ may

free_route : (base : BaseLists) (state : InForce) (truck a b : ℕ) (routes : List (List ℕ)) (f : Shortest) → IsShortest base.roads (flags_of base state truck) a b f → what.Route routes ≡ proposed_of f
    → (route : List ℕ) × (routes ≡ route ∷ []) × IsRoute base.roads.segments (is_passable base state truck) a b route
free_route base state truck a b routes (shortest.Route segments feet) h e = (
  segments,
  cc,
  route_by base.roads.segments (flagged (flags_of base state truck)) (is_passable base state truck) a b segments (flags_allow base state truck) (allow_flags base state truck) h.route,
)
free_route base state truck a b routes (shortest.Cut reached) h e = absurd (cc)
free_route base state truck a b routes (shortest.NoRoad reached) h e = absurd (cc)

free_cut : (base : BaseLists) (state : InForce) (truck a b : ℕ) (nodes : List ℕ) (f : Shortest) → IsShortest base.roads (flags_of base state truck) a b f → what.Cut nodes ≡ proposed_of f → IsCut base state truck a b nodes
free_cut base state truck a b nodes (shortest.Route segments feet) h e = absurd (cc)
free_cut base state truck a b nodes (shortest.Cut reached) h e =
    let same : reached ≡ nodes = cc in
    subst (IsCut base state truck a b) same (record {
      none = λ reach. h.none (reach_by base.roads.segments (is_passable base state truck) (flagged (flags_of base state truck)) a b (allow_flags base state truck) reach);
      by_passable = λ any. reached_by base.roads.segments (flagged (flags_of base state truck)) (is_passable base state truck) a reached (flags_allow base state truck) (allow_flags base state truck) h.nodes;
      by_any = λ none. absurd (none h.walk);
    })
free_cut base state truck a b nodes (shortest.NoRoad reached) h e =
    let same : reached ≡ nodes = cc in
    subst (IsCut base state truck a b) same (record {
      none = λ reach. h.none (reach_by base.roads.segments (is_passable base state truck) every a b (λ i within may. refl) reach);
      by_passable = λ any. absurd (h.none any);
      by_any = λ none. h.nodes;
    })

-- what is found where something is needed
found_by : (base : BaseLists) (state : InForce) (a : Application) (w : What) (asked : Option (List (List ℕ))) → a.asked ≡ asked → (w ≡ what.NotNeeded → ⊥) → IsFinding base state a w → IsFoundBy base state a asked w
found_by base state a w asked is needed h =
    elim (cases_Bool (needs_none base a.truck)) [
      | inl e ↦ absurd (needed (h.legal e))
      | inr e ↦ subst (λ (o : Option (List (List ℕ))). IsFoundBy base state a o w) is (h.found e)
    ]

pub routes_are_first : RoutesAreFirstOfShortest
routes_are_first base state a routes is h =
    let (f, is_found, same) = found_by base state a (what.Route routes) None is (λ e. cc) h in free_route base state a.truck a.from a.to routes f is_found same

pub cuts_hold : CutsLetNoneThrough
cuts_hold base state a nodes is h =
    let (f, is_found, same) = found_by base state a (what.Cut nodes) None is (λ e. cc) h in free_cut base state a.truck a.from a.to nodes f is_found same

-- where no segment of a route fails, each meets the truck
none_fails : (base : BaseLists) (state : InForce) (truck : ℕ) (route : List ℕ) → first_on base state truck route ≡ None → ByRecursion (λ s. is_passable base state truck s ≡ true) route
none_fails base state truck [] e = tt
none_fails base state truck (s ∷ rest) e =
    let (here, more) = neither (limit_for base state truck s) s (first_on base state truck rest) e in (here, none_fails base state truck rest more)
  where
    neither : (l : Option Limit) (s : ℕ) (rest : Option Failing) → first_or l s rest ≡ None → (is_none l ≡ true) × (rest ≡ None)
    neither (Some l) s rest e = absurd (cc)
    neither None s rest e = (refl, e)

first_fails : (base : BaseLists) (state : InForce) (truck : ℕ) (route : List ℕ) (f : Failing) → first_on base state truck route ≡ Some f → IsFirstFailing base state truck route f.segment
first_fails base state truck [] f e = absurd (cc)
first_fails base state truck (s ∷ rest) f e = more base state truck s rest f (first_fails base state truck rest f) (limit_for base state truck s) refl e
  where
    more : (base : BaseLists) (state : InForce) (truck s : ℕ) (rest : List ℕ) (f : Failing) → (first_on base state truck rest ≡ Some f → IsFirstFailing base state truck rest f.segment)
        → (l : Option Limit) → limit_for base state truck s ≡ l → first_or l s (first_on base state truck rest) ≡ Some f → IsFirstFailing base state truck (s ∷ rest) f.segment
    more base state truck s rest f later (Some l) is e =
        let same : s ≡ f.segment = cc in
        subst (IsFirstFailing base state truck (s ∷ rest)) same (record { front = []; back = rest; parts = refl; before = All-nil (λ k. is_passable base state truck k ≡ true); fails = ap is_none is })
    more base state truck s rest f later None is e =
        let h : IsFirstFailing base state truck rest f.segment = later e in
        record {
          front = s ∷ h.front;
          back = h.back;
          parts = ap (λ (l : List ℕ). s ∷ l) h.parts;
          before = All-cons (λ k. is_passable base state truck k ≡ true) s h.front (ap is_none is) h.before;
          fails = h.fails;
        }

asked_routes : (base : BaseLists) (state : InForce) (truck : ℕ) (asked routes : List (List ℕ)) (f : Option Failing) → first_on base state truck (concat asked) ≡ f → what.Route routes ≡ asked_finding f asked
    → (routes ≡ asked) × All (λ s. is_passable base state truck s ≡ true) (concat asked)
asked_routes base state truck asked routes (Some f) is e = absurd (cc)
asked_routes base state truck asked routes None is e = (cc, All-from_recursion (λ s. is_passable base state truck s ≡ true) (concat asked) (none_fails base state truck (concat asked) is))

asked_fails : (base : BaseLists) (state : InForce) (truck : ℕ) (asked : List (List ℕ)) (s : ℕ) (f : Option Failing) → first_on base state truck (concat asked) ≡ f → what.Fails s ≡ asked_finding f asked
    → IsFirstFailing base state truck (concat asked) s
asked_fails base state truck asked s (Some f) is e =
    let same : f.segment ≡ s = cc in subst (IsFirstFailing base state truck (concat asked)) same (first_fails base state truck (concat asked) f is)
asked_fails base state truck asked s None is e = absurd (cc)

pub asked_meet : AskedRoutesMeet
asked_meet base state a asked routes is h =
    asked_routes base state a.truck asked routes (first_on base state a.truck (concat asked)) refl (found_by base state a (what.Route routes) (Some asked) is (λ e. cc) h)

pub asked_fail_first : AskedRoutesFailFirst
asked_fail_first base state a asked s is h =
    asked_fails base state a.truck asked s (first_on base state a.truck (concat asked)) refl (found_by base state a (what.Fails s) (Some asked) is (λ e. cc) h)
