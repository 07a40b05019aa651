-- The first of some routes that is no walk breaks off, and an application is refused for no cause exactly where it is sound.
use Rattle.std.proofs.Common.{◌≡◌, ◌+◌, ◌<◌, ◌≤◌, ◌∷◌, [], ℕ, zero, suc, List, Bool, cond, true, false, length, take, refl, ap, ◌∙◌, subst, arith, Option, Some, None}
use Rattle.std.specs.Prelude.{◌↔◌, nat_lt, is_ok, Result, Ok, Err, OnOk, IfErr}
use Rattle.std.specs.List.{All, AllByRecursion as ByRecursion, concat}
use Rattle.std.proofs.lemmas.Bool.{ne_eqb}
use Rattle.std.proofs.lemmas.Bool.Decides.{nat_tests}
use Rattle.std.proofs.lemmas.List.Elements.{All-cons, All-from_recursion, All-head, All-nil, All-tail, recursion_from_All}
use Rattle.permit_days.specs.Days.{days_between}
use Rattle.road_graph.specs.declared.segment.Segment.{Segment}
use Rattle.road_graph.specs.Roads.{Roads}
use Rattle.route_search.specs.Walks.{IsWalk, every}
use Rattle.trip_analysis.specs.declared.application.Application.{Application}
use Rattle.trip_analysis.specs.declared.application_refusal.ApplicationRefusal.{ApplicationRefusal}
use Rattle.trip_analysis.specs.declared.application_refusal.ApplicationRefusal.TheVariants.{AnnualDays, BrokenRoute, DayOrder, SamePlace}
use Rattle.trip_analysis.specs.Bases.{BaseLists}
use Rattle.trip_analysis.specs.Applications.{AreAskedRoutes, AreAskedThere, AreThere, IsAskedWalk, IsApplicationCause, Sound, application_refusal, asked_refusal, break_from, break_or, cause_or, days_refusal, first_break, is_annual, year_refusal}
use Rattle.trip_analysis.specs.ApplicationLaws.{FirstBreaksAreFirst, IsFirstBreak, RoutesAreUnbroken}
use Rattle.trip_analysis.proofs.Breaks.{breaks_are_first, walk_unbroken}
use Rattle.trip_analysis.proofs.Joined.{parts_each, walks_there}
use Rattle.trip_analysis.proofs.Unbroken.{routes_walk, sound_if, unbroken_walks}

-- where the first route is a walk, the routes are refused as the others are
first_whole : (segments : List Segment) (start from to : ℕ) (route : List ℕ) (rest : List (List ℕ)) → IsWalk segments every from to route → first_break segments start from to (route ∷ rest) ≡ first_break segments (start + 1) from to rest
first_whole segments start from to route rest walk =
    ap (λ (at : Option ℕ). break_or start at (first_break segments (start + 1) from to rest)) (walk_unbroken segments 0 from to route walk)

-- routes that are walks do not break off
whole : (segments : List Segment) (start from to : ℕ) (routes : List (List ℕ)) → ByRecursion (IsWalk segments every from to) routes → first_break segments start from to routes ≡ None
whole segments start from to [] walks = refl
whole segments start from to (route ∷ rest) walks = first_whole segments start from to route rest walks.0 ∙ whole segments (start + 1) from to rest walks.1

pub routes_are_unbroken : RoutesAreUnbroken
routes_are_unbroken segments from to routes there = (
  λ e. All-from_recursion (IsWalk segments every from to) routes (routes_walk segments 0 from to routes (recursion_from_All (λ s. s < length segments) (concat routes) there) e),
  λ walks. whole segments 0 from to routes (recursion_from_All (IsWalk segments every from to) routes walks),
)

-- a number counted from the start is that of the first route that breaks off
abbrev FirstFrom : List Segment → ℕ → ℕ → ℕ → List (List ℕ) → ℕ → ℕ → Type 0
FirstFrom segments start from to routes number at = (k : ℕ) × (number ≡ start + k) × IsFirstBreak segments from to routes k at

there_of : (segments : List Segment) (route : List ℕ) → ByRecursion (λ s. s < length segments) route → All (λ s. s < length segments) route
there_of segments route each = All-from_recursion (λ s. s < length segments) route each

-- one more route in front, which is a walk
one_more : (segments : List Segment) (start from to : ℕ) (route : List ℕ) (rest : List (List ℕ)) (number at : ℕ) → IsWalk segments every from to route → FirstFrom segments (start + 1) from to rest number at → FirstFrom segments start from to (route ∷ rest) number at
one_more segments start from to route rest number at walk (k, place, first) = (
  suc k,
  omega (arith, place),
  record {
    there = omega (arith, first.there);
    before = All-cons (IsWalk segments every from to) route (take k rest) walk first.before;
    here = first.here;
  },
)

first_from : (segments : List Segment) (start from to : ℕ) (routes : List (List ℕ)) (number at : ℕ) → ByRecursion (λ s. s < length segments) (concat routes) → first_break segments start from to routes ≡ Some (BrokenRoute number at) → FirstFrom segments start from to routes number at
first_from segments start from to [] number at there e = absurd (cc)
first_from segments start from to (route ∷ rest) number at there e =
    let (here, later) = parts_each (λ s. s < length segments) route (concat rest) there in
    by (break_from segments 0 from to route) here (first_from segments (start + 1) from to rest number at later) refl e
  where
    by : (broken : Option ℕ) → ByRecursion (λ s. s < length segments) route
        → (first_break segments (start + 1) from to rest ≡ Some (BrokenRoute number at) → FirstFrom segments (start + 1) from to rest number at)
        → break_from segments 0 from to route ≡ broken → break_or start broken (first_break segments (start + 1) from to rest) ≡ Some (BrokenRoute number at) → FirstFrom segments start from to (route ∷ rest) number at
    by (Some place) here more is e =
        let same : start ≡ number = cc in
        let at_place : place ≡ at = cc in
        let broken : break_from segments 0 from to route ≡ Some at = is ∙ ap (λ (n : ℕ). Some n) at_place in
        (0, omega (arith, same), record { there = omega arith; before = All-nil (IsWalk segments every from to); here = (breaks_are_first segments from to route at (there_of segments route here)).0 broken })
    by None here more is e = one_more segments start from to route rest number at (unbroken_walks segments 0 from to route here is) (more e)

at_first : (segments : List Segment) (start from to : ℕ) (routes : List (List ℕ)) (k at : ℕ) → ByRecursion (λ s. s < length segments) (concat routes) → IsFirstBreak segments from to routes k at → first_break segments start from to routes ≡ Some (BrokenRoute (start + k) at)
at_first segments start from to [] k at there h = absurd (omega (arith, h.there))
at_first segments start from to (route ∷ rest) zero at there h =
    let (here, later) = parts_each (λ s. s < length segments) route (concat rest) there in
    let place : start ≡ start + 0 = omega arith in
    ap (λ (b : Option ℕ). break_or start b (first_break segments (start + 1) from to rest)) ((breaks_are_first segments from to route at (there_of segments route here)).1 h.here) ∙ ap (λ (n : ℕ). Some (BrokenRoute n at)) place
at_first segments start from to (route ∷ rest) (suc k) at there h =
    let (here, later) = parts_each (λ s. s < length segments) route (concat rest) there in
    let shorter : IsFirstBreak segments from to rest k at = record { there = omega (arith, h.there); before = All-tail (IsWalk segments every from to) route (take k rest) h.before; here = h.here } in
    let place : start + 1 + k ≡ start + suc k = omega arith in
    first_whole segments start from to route rest (All-head (IsWalk segments every from to) route (take k rest) h.before)
    ∙ (at_first segments (start + 1) from to rest k at later shorter ∙ ap (λ (n : ℕ). Some (BrokenRoute n at)) place)

pub first_breaks_are_first : FirstBreaksAreFirst
first_breaks_are_first segments from to routes route at there = (forth, back)
  where
    each : ByRecursion (λ s. s < length segments) (concat routes)
    each = recursion_from_All (λ s. s < length segments) (concat routes) there

    forth : first_break segments 0 from to routes ≡ Some (BrokenRoute route at) → IsFirstBreak segments from to routes route at
    forth e =
        let (k, place, first) = first_from segments 0 from to routes route at each e in
        let same : k ≡ route = omega (arith, place) in
        subst (λ (n : ℕ). IsFirstBreak segments from to routes n at) same first

    back : IsFirstBreak segments from to routes route at → first_break segments 0 from to routes ≡ Some (BrokenRoute route at)
    back h = let place : 0 + route ≡ route = omega arith in at_first segments 0 from to routes route at each h ∙ ap (λ (n : ℕ). Some (BrokenRoute n at)) place

-- what a sound application names is there
asked_along : (roads : Roads) (from to : ℕ) (asked : Option (List (List ℕ))) → IsAskedWalk roads from to asked → AreAskedThere roads asked
asked_along roads from to None walks = tt
asked_along roads from to (Some routes) walks = walks_there roads.segments every from to routes walks

-- the segments of asked routes are there
pub asked_there : (roads : Roads) (from to : ℕ) (asked : Option (List (List ℕ))) (routes : List (List ℕ)) → asked ≡ Some routes → IsAskedWalk roads from to asked → All (λ s. s < length roads.segments) (concat routes)
asked_there roads from to None routes is walks = absurd (cc)
asked_there roads from to (Some list) routes is walks =
    let same : list ≡ routes = cc in
    subst (λ (l : List (List ℕ)). All (λ s. s < length roads.segments) (concat l)) same (walks_there roads.segments every from to list walks)

pub sound_there : (base : BaseLists) (a : Application) → Sound base a → AreThere base.roads a.from a.to a.asked
sound_there base a sound = record { begins = sound.from; ends = sound.to; along = asked_along base.roads a.from a.to a.asked sound.asked }

asked_whole : (roads : Roads) (from to : ℕ) (asked : Option (List (List ℕ))) → IsAskedWalk roads from to asked → asked_refusal roads.segments from to asked ≡ None
asked_whole roads from to None walks = refl
asked_whole roads from to (Some routes) walks = whole roads.segments 0 from to routes (recursion_from_All (IsWalk roads.segments every from to) routes walks)

year_whole : (annual : Bool) (days : ℕ) → (annual ≡ true → days ≤ 365) → year_refusal annual days ≡ None
year_whole false days h = refl
year_whole true days h =
    let few : days ≤ 365 = h refl in
    let less : nat_lt 365 days ≡ false = grind (arith, nat_tests) in
    ap (λ b. cond b (Some (AnnualDays days)) None) less

-- no cause refuses a sound application
pub sound_taken : (base : BaseLists) (a : Application) → Sound base a → application_refusal base.roads a.from a.to a.asked a.first a.last ≡ None
sound_taken base a sound =
    let days = days_refusal (is_annual a.asked) a.first a.last in
    ap (λ b. cond b (Some SamePlace) (cause_or (asked_refusal base.roads.segments a.from a.to a.asked) days)) (ne_eqb a.from a.to sound.apart)
    ∙ (ap (λ (r : Option ApplicationRefusal). cause_or r days) (asked_whole base.roads a.from a.to a.asked sound.asked)
    ∙ (ap (λ b. cond b (Some DayOrder) (year_refusal (is_annual a.asked) (days_between a.first a.last))) sound.days ∙ year_whole (is_annual a.asked) (days_between a.first a.last) sound.year))

-- whether an application is taken says whether it is sound, where all that it names is there
pub sound_by : (base : BaseLists) (a : Application) (r : Result (Unit {0}) ApplicationRefusal) (answer : Bool) → a.truck < length base.fleet → AreThere base.roads a.from a.to a.asked
    → OnOk r (AreAskedRoutes a.asked) → OnOk r (application_refusal base.roads a.from a.to a.asked a.first a.last ≡ None) → IfErr r (IsApplicationCause (application_refusal base.roads a.from a.to a.asked a.first a.last)) → answer ≡ is_ok r → (answer ≡ true) ↔ Sound base a
sound_by base a (Ok done) answer known there few taken refused is = (λ e. sound_if base.roads a there few taken base refl known, λ sound. is)
sound_by base a (Err refusal) answer known there few taken refused is = (λ e. absurd (cc), λ sound. absurd (cc (sound_taken base a sound)))
