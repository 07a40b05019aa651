-- What a finding says of the walks of its trip.
use Rattle.std.proofs.Common.{◌≡◌, ◌≢◌, ◌⊎◌, inl, inr, ◌+◌, ◌-◌, ◌<◌, ◌≤◌, ◌∷◌, [], ◌&&◌, ◌||◌, ◌==◌, not, ℕ, zero, suc, List, Bool, cond, true, false, length, filter, refl, ap, sym, ◌∙◌, subst, arith, Option, Some, None, if◌then◌else◌, eq-eqb}
use Rattle.std.specs.Prelude.{slice_get}
use Rattle.std.specs.List.{All, concat, range_with_len}
use Rattle.std.proofs.lemmas.Bool.{cases_Bool, cases_eq, false≢true}
use Rattle.std.proofs.lemmas.List.Elements.{All-cons, All-nil}
use Rattle.std.proofs.lemmas.Option.{get_or_from_slice_get, slice_get_within}
use Rattle.road_graph.specs.Roads.{Roads, no_segment}
use Rattle.restriction_log.specs.States.{InForce}
use Rattle.clearance_rules.specs.declared.limit.Limit.{Limit}
use Rattle.road_graph.specs.declared.segment.Segment.{Segment}
use Rattle.trip_analysis.specs.declared.application.Application.{Application}
use Rattle.trip_analysis.specs.declared.failing.Failing.{Failing}
use Rattle.trip_analysis.specs.declared.finding.What.{What}
use Rattle.trip_analysis.specs.Bases.{BaseLists}
use Rattle.trip_analysis.specs.Applications.{Sound, IsAskedWalk}
use Rattle.trip_analysis.specs.Passing.{limit_for, is_passable, first_on, first_or, flags_of, needs_none}
use Rattle.trip_analysis.specs.Findings.{first_meeting, leaving, leaves, IsFinding, IsFoundBy, asked_finding, is_number_among, proposed_of}
use Rattle.trip_analysis.specs.declared.finding.What.TheVariants as what
use Rattle.route_search.specs.Walks.{IsWalk, every, flagged, CanReach, AreReached}
use Rattle.route_search.specs.declared.shortest.Shortest.{Shortest}
use Rattle.route_search.specs.declared.shortest.Shortest.TheVariants as shortest
use Rattle.route_search.specs.Founds.{IsShortest as IsSearched}
use Rattle.trip_analysis.proofs.Found.{among_from_is_in, is_in_from_among}
use Rattle.trip_analysis.proofs.Meanings.{asked_meet, routes_are_first}
use Rattle.route_search.specs.Laws.{Leaves}
use Rattle.route_search.proofs.Cuts.{stays_in}
use Rattle.route_search.proofs.Outcomes.{to_every}

-- what is found is not that nothing is needed
found_by : (base : BaseLists) (state : InForce) (a : Application) (w : What) → (w ≡ what.NotNeeded → ⊥) → IsFinding base state a w → IsFoundBy base state a a.asked w
found_by base state a w off h = elim (cases_Bool (needs_none base a.truck)) [ inl e ↦ absurd (off (h.legal e)) | inr e ↦ h.found e ]

-- where a permit is needed, something is found
pub is_needed : (base : BaseLists) (state : InForce) (a : Application) → needs_none base a.truck ≡ false → IsFinding base state a what.NotNeeded → ⊥
is_needed base state a needed h = by a.asked (h.found needed)
  where
    searched : (f : Shortest) → what.NotNeeded ≡ proposed_of f → ⊥
    searched (shortest.Route segments feet) same = cc
    searched (shortest.Cut reached) same = cc
    searched (shortest.NoRoad reached) same = cc

    asked_by : (routes : List (List ℕ)) (f : Option Failing) → what.NotNeeded ≡ asked_finding f routes → ⊥
    asked_by routes (Some f) is = cc
    asked_by routes None is = cc

    by : (asked : Option (List (List ℕ))) → IsFoundBy base state a asked what.NotNeeded → ⊥
    by (Some routes) is = asked_by routes (first_on base state a.truck (concat routes)) is
    by None is = let (f, is_found, same) = is in searched f same

-- each route that is found is a walk of its trip
pub routes_walk : (base : BaseLists) (state : InForce) (a : Application) (routes : List (List ℕ)) → Sound base a → IsFinding base state a (what.Route routes) → All (IsWalk base.roads.segments every a.from a.to) routes
routes_walk base state a routes sound h = by a.asked refl sound.asked
  where
    by : (asked : Option (List (List ℕ))) → a.asked ≡ asked → IsAskedWalk base.roads a.from a.to asked → All (IsWalk base.roads.segments every a.from a.to) routes
    by (Some lists) is walks = subst (All (IsWalk base.roads.segments every a.from a.to)) (sym (asked_meet base state a lists routes is h).0) walks
    by None none walks =
        let (route, alone, first) = routes_are_first base state a routes none h in
        subst (All (IsWalk base.roads.segments every a.from a.to)) (sym alone)
        (All-cons (IsWalk base.roads.segments every a.from a.to) route [] (to_every base.roads.segments (is_passable base state a.truck) a.from a.to route first.walk)
        (All-nil (IsWalk base.roads.segments every a.from a.to)))

-- a segment that is found to fail is on one of the asked routes
pub record IsOnAsked (a : Application) (s : ℕ) : Type 0 where
  pub routes : List (List ℕ)
  pub asked : a.asked ≡ Some routes
  pub on : is_number_among s (concat routes) ≡ true

here_or : (s t : ℕ) (b : Bool) → s ≡ t → ((s == t) || b) ≡ true
here_or s t b e = rw (eq-eqb s t e) refl

later_or : (b c : Bool) → c ≡ true → (b || c) ≡ true
later_or true c e = refl
later_or false c e = e

pub first_in : (base : BaseLists) (state : InForce) (truck : ℕ) (f : Failing) (route : List ℕ) → first_on base state truck route ≡ Some f → is_number_among f.segment route ≡ true
first_in base state truck f [] e = cc
first_in base state truck f (s ∷ rest) e = by (limit_for base state truck s) e (first_in base state truck f rest)
  where
    by : (l : Option Limit) → first_or l s (first_on base state truck rest) ≡ Some f → (first_on base state truck rest ≡ Some f → is_number_among f.segment rest ≡ true) → is_number_among f.segment (s ∷ rest) ≡ true
    by (Some l) e again = let is : s ≡ f.segment = cc in here_or s f.segment (is_number_among f.segment rest) is
    by None e again = later_or (s == f.segment) (is_number_among f.segment rest) (again e)

-- and the limit that is named is its first failing one
pub first_limit : (base : BaseLists) (state : InForce) (truck : ℕ) (f : Failing) (route : List ℕ) → first_on base state truck route ≡ Some f → limit_for base state truck f.segment ≡ Some f.limit
first_limit base state truck f [] e = cc
first_limit base state truck f (s ∷ rest) e = by (limit_for base state truck s) refl e (first_limit base state truck f rest)
  where
    by : (l : Option Limit) → limit_for base state truck s ≡ l → first_or l s (first_on base state truck rest) ≡ Some f
        → (first_on base state truck rest ≡ Some f → limit_for base state truck f.segment ≡ Some f.limit) → limit_for base state truck f.segment ≡ Some f.limit
    by (Some l) is e again = let here : s ≡ f.segment = cc in let named : l ≡ f.limit = cc in
        ap (limit_for base state truck) (sym here) ∙ (is ∙ ap (λ (x : Limit). Some x) named)
    by None is e again = again e

pub fails_asked : (base : BaseLists) (state : InForce) (a : Application) (s : ℕ) → IsFinding base state a (what.Fails s) → IsOnAsked a s
fails_asked base state a s h = by a.asked refl (found_by base state a (what.Fails s) (λ e. cc) h)
  where
    searched : (f : Shortest) → what.Fails s ≡ proposed_of f → IsOnAsked a s
    searched (shortest.Route segments feet) same = cc
    searched (shortest.Cut reached) same = cc
    searched (shortest.NoRoad reached) same = cc

    asked_by : (routes : List (List ℕ)) (f : Option Failing) → a.asked ≡ Some routes → first_on base state a.truck (concat routes) ≡ f → what.Fails s ≡ asked_finding f routes → IsOnAsked a s
    asked_by routes (Some f) asked e is = let same : f.segment ≡ s = cc in record { routes = routes; asked = asked; on = ap (λ (n : ℕ). is_number_among n (concat routes)) (sym same) ∙ first_in base state a.truck f (concat routes) e }
    asked_by routes None asked e is = cc

    by : (asked : Option (List (List ℕ))) → a.asked ≡ asked → IsFoundBy base state a asked (what.Fails s) → IsOnAsked a s
    by (Some routes) asked is = asked_by routes (first_on base state a.truck (concat routes)) asked refl is
    by None asked is = let (f, is_found, same) = is in searched f same

-- nodes that hold the one and not the other
pub record Separates (nodes : List ℕ) (a b : ℕ) : Type 0 where
  pub inside : is_number_among a nodes ≡ true
  pub outside : is_number_among b nodes ≡ false

reached_separate : (segments : List Segment) (may : ℕ → Bool) (a b : ℕ) (nodes : List ℕ) → AreReached segments may a nodes → (CanReach segments may a b → ⊥) → Separates nodes a b
reached_separate segments may a b nodes h none = record {
  inside = let (k, at) = h.complete a ([], refl) in is_in_from_among a nodes k at;
  outside = elim (cases_Bool (is_number_among b nodes)) [ inl e ↦ absurd (let (k, at) = among_from_is_in b nodes e in none (h.sound k b at)) | inr e ↦ e ];
}

-- a cut is found where no route is asked for, and its nodes hold the beginning of the trip and not its end
pub record IsCutOf (a : Application) (nodes : List ℕ) : Type 0 where
  pub asked : a.asked ≡ None
  pub apart : Separates nodes a.from a.to

pub cut_of : (base : BaseLists) (state : InForce) (a : Application) (nodes : List ℕ) → IsFinding base state a (what.Cut nodes) → IsCutOf a nodes
cut_of base state a nodes h = by a.asked refl (found_by base state a (what.Cut nodes) (λ e. cc) h)
  where
    searched : a.asked ≡ None → (f : Shortest) → IsSearched base.roads (flags_of base state a.truck) a.from a.to f → what.Cut nodes ≡ proposed_of f → IsCutOf a nodes
    searched none (shortest.Route segments feet) is same = cc
    searched none (shortest.Cut reached) is same = let e : reached ≡ nodes = cc in
        record { asked = none; apart = subst (λ (l : List ℕ). Separates l a.from a.to) e (reached_separate base.roads.segments (flagged (flags_of base state a.truck)) a.from a.to reached is.nodes is.none) }
    searched none (shortest.NoRoad reached) is same = let e : reached ≡ nodes = cc in
        record { asked = none; apart = subst (λ (l : List ℕ). Separates l a.from a.to) e (reached_separate base.roads.segments every a.from a.to reached is.nodes is.none) }

    asked_by : (routes : List (List ℕ)) (f : Option Failing) → what.Cut nodes ≡ asked_finding f routes → IsCutOf a nodes
    asked_by routes (Some f) is = cc
    asked_by routes None is = cc

    by : (asked : Option (List (List ℕ))) → a.asked ≡ asked → IsFoundBy base state a asked (what.Cut nodes) → IsCutOf a nodes
    by (Some routes) asked is = asked_by routes (first_on base state a.truck (concat routes)) is
    by None asked is = let (f, is_found, same) = is in searched asked f is_found same

-- where a cut is found, some walk is there or none is
pub road_or : (base : BaseLists) (state : InForce) (a : Application) (nodes : List ℕ) → IsFinding base state a (what.Cut nodes) → CanReach base.roads.segments every a.from a.to ⊎ (CanReach base.roads.segments every a.from a.to → ⊥)
road_or base state a nodes h = by a.asked refl (found_by base state a (what.Cut nodes) (λ e. cc) h)
  where
    searched : (f : Shortest) → IsSearched base.roads (flags_of base state a.truck) a.from a.to f → what.Cut nodes ≡ proposed_of f → CanReach base.roads.segments every a.from a.to ⊎ (CanReach base.roads.segments every a.from a.to → ⊥)
    searched (shortest.Route segments feet) is same = cc
    searched (shortest.Cut reached) is same = inl is.walk
    searched (shortest.NoRoad reached) is same = inr is.none

    asked_by : (routes : List (List ℕ)) (f : Option Failing) → what.Cut nodes ≡ asked_finding f routes → CanReach base.roads.segments every a.from a.to ⊎ (CanReach base.roads.segments every a.from a.to → ⊥)
    asked_by routes (Some f) is = cc
    asked_by routes None is = cc

    by : (asked : Option (List (List ℕ))) → a.asked ≡ asked → IsFoundBy base state a asked (what.Cut nodes) → CanReach base.roads.segments every a.from a.to ⊎ (CanReach base.roads.segments every a.from a.to → ⊥)
    by (Some routes) asked is = asked_by routes (first_on base state a.truck (concat routes)) is
    by None asked is = let (f, is_found, same) = is in searched f is_found same

-- a segment that begins in a set of nodes and does not end in it leaves it
leaves_of : (roads : Roads) (nodes : List ℕ) (i : ℕ) (s : Segment) → slice_get roads.segments i ≡ Some s → Leaves (λ n. is_number_among n nodes) s → leaves roads nodes i ≡ true
leaves_of roads nodes i s at h = ap (λ (t : Segment). is_number_among t.from nodes && not (is_number_among t.to nodes)) (get_or_from_slice_get roads.segments i s no_segment at) ∙ both h.0 h.1
  where
    both : {b c : Bool} → b ≡ true → c ≡ false → (b && not c) ≡ true
    both e f = rw (e, f) refl

meet_none : (b : Bool) (a : ℕ) (rest : Option ℕ) → (if b then Some a else rest) ≡ None → (b ≡ false) × (rest ≡ None)
meet_none true a rest e = cc
meet_none false a rest e = (refl, e)

-- where none of those that pass a test meets, each of them fails
pub none_meets : (base : BaseLists) (state : InForce) (truck : ℕ) (f : ℕ → Bool) (a k : ℕ) → first_meeting base state truck (filter f (range_with_len a k)) ≡ None → (s : ℕ) → a ≤ s → s < a + k → f s ≡ true → is_passable base state truck s ≡ false
none_meets base state truck f a zero e s low high on = absurd (omega (arith, low, high))
none_meets base state truck f a (suc k) e s low high on = by (f a) refl e (cases_eq s a) (λ rest other. none_meets base state truck f (a + 1) k rest s (omega (arith, low, other)) (omega (arith, high)) on)
  where
    by : (b : Bool) → f a ≡ b → first_meeting base state truck (cond b (a ∷ filter f (range_with_len (a + 1) k)) (filter f (range_with_len (a + 1) k))) ≡ None → (s ≡ a) ⊎ (s ≢ a)
        → (first_meeting base state truck (filter f (range_with_len (a + 1) k)) ≡ None → s ≢ a → is_passable base state truck s ≡ false) → is_passable base state truck s ≡ false
    by true fa e (inl same) again = ap (is_passable base state truck) same ∙ (meet_none (is_passable base state truck a) a (first_meeting base state truck (filter f (range_with_len (a + 1) k))) e).0
    by true fa e (inr other) again = again (meet_none (is_passable base state truck a) a (first_meeting base state truck (filter f (range_with_len (a + 1) k))) e).1 other
    by false fa e (inl same) again = absurd (false≢true (sym fa ∙ (ap f (sym same) ∙ on)))
    by false fa e (inr other) again = again e other

-- the first of those that pass a test
pub record IsFirst (f : ℕ → Bool) (a k s : ℕ) : Type 0 where
  pub low : a ≤ s
  pub high : s < a + k
  pub passes : f s ≡ true
  pub least : (j : ℕ) → a ≤ j → f j ≡ true → s ≤ j

pub first_is : (f : ℕ → Bool) (a k s : ℕ) (rest : List ℕ) → filter f (range_with_len a k) ≡ s ∷ rest → IsFirst f a k s
first_is f a zero s rest e = cc
first_is f a (suc k) s rest e = by (f a) refl e (first_is f (a + 1) k s rest)
  where
    by : (b : Bool) → f a ≡ b → cond b (a ∷ filter f (range_with_len (a + 1) k)) (filter f (range_with_len (a + 1) k)) ≡ s ∷ rest
        → (filter f (range_with_len (a + 1) k) ≡ s ∷ rest → IsFirst f (a + 1) k s) → IsFirst f a (suc k) s
    by true fa e again = let is : a ≡ s = cc in record { low = omega (arith, is); high = omega (arith, is); passes = ap f (sym is) ∙ fa; least = λ j low on. omega (arith, is, low) }
    by false fa e again = let later = again e in
        record {
          low = omega (arith, later.low);
          high = omega (arith, later.high);
          passes = later.passes;
          least = λ j low on. elim (cases_eq j a) [
            | inl same ↦ absurd (false≢true (sym fa ∙ (ap f (sym same) ∙ on)))
            | inr other ↦ later.least j (omega (arith, low, other)) on
          ];
        }

-- the first of them that meets
pub record IsMeeting (base : BaseLists) (state : InForce) (truck : ℕ) (f : ℕ → Bool) (a k s : ℕ) : Type 0 where
  pub low : a ≤ s
  pub high : s < a + k
  pub passes : f s ≡ true
  pub meets : is_passable base state truck s ≡ true
  pub least : (j : ℕ) → a ≤ j → f j ≡ true → is_passable base state truck j ≡ true → s ≤ j

meet_some : (b : Bool) (a s : ℕ) (rest : Option ℕ) → (if b then Some a else rest) ≡ Some s → ((b ≡ true) × (a ≡ s)) ⊎ ((b ≡ false) × (rest ≡ Some s))
meet_some true a s rest e = inl (refl, cc)
meet_some false a s rest e = inr (refl, e)

pub meeting_is : (base : BaseLists) (state : InForce) (truck : ℕ) (f : ℕ → Bool) (a k s : ℕ) → first_meeting base state truck (filter f (range_with_len a k)) ≡ Some s → IsMeeting base state truck f a k s
meeting_is base state truck f a zero s e = cc
meeting_is base state truck f a (suc k) s e = by (f a) refl e (meeting_is base state truck f (a + 1) k s)
  where
    -- past a number that does not pass, or whose segment does not meet
    more : (f a ≡ true → is_passable base state truck a ≡ true → ⊥) → IsMeeting base state truck f (a + 1) k s → IsMeeting base state truck f a (suc k) s
    more off h = record {
      low = omega (arith, h.low);
      high = omega (arith, h.high);
      passes = h.passes;
      meets = h.meets;
      least = λ j low on met. elim (cases_eq j a) [
        | inl same ↦ absurd (off (ap f (sym same) ∙ on) (ap (is_passable base state truck) (sym same) ∙ met))
        | inr other ↦ h.least j (omega (arith, low, other)) on met
      ];
    }

    by : (b : Bool) → f a ≡ b → first_meeting base state truck (cond b (a ∷ filter f (range_with_len (a + 1) k)) (filter f (range_with_len (a + 1) k))) ≡ Some s
        → (first_meeting base state truck (filter f (range_with_len (a + 1) k)) ≡ Some s → IsMeeting base state truck f (a + 1) k s) → IsMeeting base state truck f a (suc k) s
    by true fa e again = elim (meet_some (is_passable base state truck a) a s (first_meeting base state truck (filter f (range_with_len (a + 1) k))) e) [
      | inl here ↦ record {
        low = omega (arith, here.1);
        high = omega (arith, here.1);
        passes = ap f (sym here.1) ∙ fa;
        meets = ap (is_passable base state truck) (sym here.1) ∙ here.0;
        least = λ j low on met. omega (arith, here.1, low);
      }
      | inr later ↦ more (λ on met. false≢true (sym later.0 ∙ met)) (again later.1)
    ]
    by false fa e again = more (λ on met. false≢true (sym fa ∙ on)) (again e)

none_left : (f : ℕ → Bool) (a k : ℕ) → filter f (range_with_len a k) ≡ [] → (s : ℕ) → a ≤ s → s < a + k → f s ≡ true → ⊥
none_left f a zero e s low high on = omega (arith, low, high)
none_left f a (suc k) e s low high on = by (f a) refl e (cases_eq s a) (λ rest other. none_left f (a + 1) k rest s (omega (arith, low, other)) (omega (arith, high)) on)
  where
    by : (b : Bool) → f a ≡ b → cond b (a ∷ filter f (range_with_len (a + 1) k)) (filter f (range_with_len (a + 1) k)) ≡ [] → (s ≡ a) ⊎ (s ≢ a)
        → (filter f (range_with_len (a + 1) k) ≡ [] → s ≢ a → ⊥) → ⊥
    by true fa e same again = cc
    by false fa e (inl same) again = false≢true (sym fa ∙ (ap f (sym same) ∙ on))
    by false fa e (inr other) again = again e other

-- where no segment that leaves the nodes may be passed, no passable walk leads from the one to the other
pub none_passable : (base : BaseLists) (state : InForce) (truck a b : ℕ) (nodes path : List ℕ) → Separates nodes a b → first_meeting base state truck (leaving base.roads nodes) ≡ None → IsWalk base.roads.segments (is_passable base state truck) a b path → ⊥
none_passable base state truck a b nodes path apart none walk =
    false≢true (sym apart.outside ∙ stays_in base.roads.segments (is_passable base state truck) (λ n. is_number_among n nodes) closed a b path apart.inside walk)
  where
    closed : (i : ℕ) (s : Segment) → slice_get base.roads.segments i ≡ Some s → is_passable base state truck i ≡ true → Leaves (λ n. is_number_among n nodes) s → ⊥
    closed i s at may out = let within : i < length base.roads.segments = slice_get_within base.roads.segments i s at in
        false≢true (sym (none_meets base state truck (leaves base.roads nodes) 0 (length base.roads.segments - 0) none i (omega arith) (omega (arith, within)) (leaves_of base.roads nodes i s at out)) ∙ may)

-- where no segment leaves the nodes, no walk leads from the one to the other
pub none_there : (roads : Roads) (a b : ℕ) (nodes path : List ℕ) → Separates nodes a b → leaving roads nodes ≡ [] → IsWalk roads.segments every a b path → ⊥
none_there roads a b nodes path apart none walk =
    false≢true (sym apart.outside ∙ stays_in roads.segments every (λ n. is_number_among n nodes) closed a b path apart.inside walk)
  where
    closed : (i : ℕ) (s : Segment) → slice_get roads.segments i ≡ Some s → every i ≡ true → Leaves (λ n. is_number_among n nodes) s → ⊥
    closed i s at may out = let within : i < length roads.segments = slice_get_within roads.segments i s at in
        none_left (leaves roads nodes) 0 (length roads.segments - 0) none i (omega arith) (omega (arith, within)) (leaves_of roads nodes i s at out)
