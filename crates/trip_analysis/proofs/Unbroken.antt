-- A route that does not break off is a walk.
use Rattle.std.proofs.Common.{◌≡◌, ◌≢◌, ◌<◌, ◌≤◌, ◌∷◌, ◌==◌, ◌+◌, [], ℕ, List, Bool, cond, true, false, length, refl, sym, subst, arith, Option, Some, None}
use Rattle.std.specs.Prelude.{nat_lt, Result, Ok, Err, IfOk}
use Rattle.std.specs.List.{AllByRecursion as ByRecursion, concat}
use Rattle.std.proofs.lemmas.Bool.{eqb-false, eqb-true}
use Rattle.std.proofs.lemmas.Bool.Decides.{nat_tests}
use Rattle.std.proofs.lemmas.List.Elements.{All-from_recursion, recursion_from_All}
use Rattle.std.proofs.lemmas.Option.{slice_get-get_or}
use Rattle.permit_days.specs.Days.{days_between, is_before}
use Rattle.road_graph.specs.declared.segment.Segment.{Segment}
use Rattle.road_graph.specs.Roads.{Roads, no_segment, segment_at}
use Rattle.route_search.specs.Walks.{IsWalk, every}
use Rattle.trip_analysis.specs.declared.application.Application.{Application}
use Rattle.trip_analysis.specs.declared.application_refusal.ApplicationRefusal.{ApplicationRefusal}
use Rattle.trip_analysis.specs.declared.application_refusal.ApplicationRefusal.TheVariants.{AnnualDays, DayOrder, SamePlace}
use Rattle.trip_analysis.specs.Bases.{BaseLists}
use Rattle.trip_analysis.specs.Applications.{AreAskedRoutes, AreAskedThere, AreThere, IsAskedWalk, IsSoundOn, Sound, application_refusal, asked_refusal, break_from, break_or, cause_or, days_refusal, first_break, is_annual, year_refusal}
use Rattle.trip_analysis.proofs.Joined.{parts_each}

ends_there : (from to at : ℕ) (b : Bool) → (from == to) ≡ b → cond b None (Some at) ≡ None → from ≡ to
ends_there from to at true is e = eqb-true from to is
ends_there from to at false is e = absurd (grind (arith, e))

goes_on : (here from at : ℕ) (rest : Option ℕ) (b : Bool) → (here == from) ≡ b → cond b rest (Some at) ≡ None → (here ≡ from) × (rest ≡ None)
goes_on here from at rest true is e = (eqb-true here from is, e)
goes_on here from at rest false is e = absurd (grind (arith, e))

pub unbroken_walks : (segments : List Segment) (at from to : ℕ) (route : List ℕ) → ByRecursion (λ s. s < length segments) route → break_from segments at from to route ≡ None → IsWalk segments every from to route
unbroken_walks segments at from to [] there e = ends_there from to at (from == to) refl e
unbroken_walks segments at from to (i ∷ path) there e =
    let here = segment_at segments i in
    let (begins, rest) = goes_on here.from from at (break_from segments (at + 1) here.to to path) (here.from == from) refl e in
    (here, slice_get-get_or segments i no_segment there.0, refl, begins, unbroken_walks segments (at + 1) here.to to path there.1 rest)

neither_breaks : (route : ℕ) (at : Option ℕ) (rest : Option ApplicationRefusal) → break_or route at rest ≡ None → (at ≡ None) × (rest ≡ None)
neither_breaks route (Some at) rest e = absurd (cc)
neither_breaks route None rest e = (refl, e)

-- routes of which none breaks off are walks
pub routes_walk : (segments : List Segment) (start from to : ℕ) (routes : List (List ℕ)) → ByRecursion (λ s. s < length segments) (concat routes) → first_break segments start from to routes ≡ None → ByRecursion (IsWalk segments every from to) routes
routes_walk segments start from to [] there e = tt
routes_walk segments start from to (route ∷ rest) there e =
    let (here, later) = parts_each (λ s. s < length segments) route (concat rest) there in
    let (whole, more) = neither_breaks start (break_from segments 0 from to route) (first_break segments (start + 1) from to rest) e in
    (unbroken_walks segments 0 from to route here whole, routes_walk segments (start + 1) from to rest later more)

asked_walks : (roads : Roads) (from to : ℕ) (asked : Option (List (List ℕ))) → AreAskedThere roads asked → asked_refusal roads.segments from to asked ≡ None → IsAskedWalk roads from to asked
asked_walks roads from to None there e = tt
asked_walks roads from to (Some routes) there e =
    All-from_recursion (IsWalk roads.segments every from to) routes (routes_walk roads.segments 0 from to routes (recursion_from_All (λ s. s < length roads.segments) (concat routes) there) e)

in_year : (days : ℕ) (late : Bool) → nat_lt 365 days ≡ late → cond late (Some (AnnualDays days)) None ≡ None → days ≤ 365
in_year days true is e = absurd (cc)
in_year days false is e = grind (arith, nat_tests)

year_fits : (annual : Bool) (days : ℕ) → year_refusal annual days ≡ None → annual ≡ true → days ≤ 365
year_fits false days e is = absurd (cc)
year_fits true days e is = in_year days (nat_lt 365 days) refl e

days_fit : (backward annual : Bool) (days : ℕ) → cond backward (Some DayOrder) (year_refusal annual days) ≡ None → (backward ≡ false) × (annual ≡ true → days ≤ 365)
days_fit true annual days e = absurd (cc)
days_fit false annual days e = (refl, year_fits annual days e)

first_none : (first later : Option ApplicationRefusal) → cause_or first later ≡ None → (first ≡ None) × (later ≡ None)
first_none (Some refusal) later e = absurd (cc)
first_none None later e = (refl, e)

away : (from to : ℕ) (same : Bool) (later : Option ApplicationRefusal) → (from == to) ≡ same → cond same (Some SamePlace) later ≡ None → (from ≢ to) × (later ≡ None)
away from to true later is e = absurd (cc)
away from to false later is e = (eqb-false from to is, e)

-- an application that no cause refuses is sound
pub sound_if : (roads : Roads) (a : Application) → AreThere roads a.from a.to a.asked → AreAskedRoutes a.asked → application_refusal roads a.from a.to a.asked a.first a.last ≡ None → IsSoundOn roads a.truck a
sound_if roads a there few taken base same known =
    let days = days_refusal (is_annual a.asked) a.first a.last in
    let (apart, causes) = away a.from a.to (a.from == a.to) (cause_or (asked_refusal roads.segments a.from a.to a.asked) days) refl taken in
    let (unbroken, in_days) = first_none (asked_refusal roads.segments a.from a.to a.asked) days causes in
    let (forward, year) = days_fit (is_before a.last a.first) (is_annual a.asked) (days_between a.first a.last) in_days in
    record {
      truck = known;
      from = subst (λ (r : Roads). a.from < length r.nodes) (sym same) there.begins;
      to = subst (λ (r : Roads). a.to < length r.nodes) (sym same) there.ends;
      apart = apart;
      routes = few;
      asked = subst (λ (r : Roads). IsAskedWalk r a.from a.to a.asked) (sym same) (asked_walks roads a.from a.to a.asked there.along unbroken);
      days = forward;
      year = year;
    }

-- an application that is sound on the roads of a base with its truck is sound for the base
pub sound_on : (base : BaseLists) (roads : Roads) (truck : ℕ) (r : Result Application ApplicationRefusal) → base.roads ≡ roads → truck < length base.fleet → IfOk r (IsSoundOn roads truck) → IfOk r (λ a. Sound base a)
sound_on base roads truck (Ok a) same known h = h base same known
sound_on base roads truck (Err e) same known h = tt
