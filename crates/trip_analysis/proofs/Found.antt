-- What is found holds in the state in which it was found, and speaks of what is there.
use Rattle.std.proofs.Common.{◌≡◌, ◌+◌, ◌-◌, ◌<◌, ◌≤◌, ◌∷◌, [], ◌==◌, ◌||◌, ◌&&◌, not, ℕ, zero, suc, List, Bool, cond, true, false, length, filter, get_or, refl, ap, sym, ◌∙◌, subst, inl, inr, arith, Option, Some, None, is_none}
use Rattle.std.specs.Prelude.{slice_get}
use Rattle.std.specs.List.{All, AllByRecursion as ByRecursion, concat, range_with_len}
use Rattle.std.proofs.lemmas.List.Elements.{All-same, recursion_from_All}
use Rattle.std.proofs.lemmas.Bool.{cases_Bool, eq-eqb, eqb-true}
use Rattle.std.proofs.lemmas.Option.{slice_get-get_or}
use Rattle.restriction_log.specs.States.{InForce}
use Rattle.road_graph.specs.Roads.{IsRoads, no_segment, segment_at}
use Rattle.road_graph.proofs.Places.{get_within}
use Rattle.route_search.specs.declared.shortest.Shortest.{Shortest}
use Rattle.route_search.specs.declared.shortest.Shortest.TheVariants as shortest
use Rattle.route_search.specs.Walks.{AreReached, IsAmong, IsWalk, every, flagged}
use Rattle.route_search.specs.Founds.{IsShortest}
use Rattle.route_search.proofs.Cuts.{reached_closed, shortest_in_range}
use Rattle.trip_analysis.specs.declared.application.Application.{Application}
use Rattle.trip_analysis.specs.declared.finding.What.{What}
use Rattle.trip_analysis.specs.declared.failing.Failing.{Failing}
use Rattle.trip_analysis.specs.Bases.{BaseLists}
use Rattle.trip_analysis.specs.Applications.{IsAskedWalk, Sound}
use Rattle.trip_analysis.specs.Passing.{Limit, first_on, first_or, flags_of, is_passable, limit_for, needs_none}
use Rattle.trip_analysis.specs.Findings.{HoldsIn, InRange, IsFinding, IsFoundBy, asked_finding, first_meeting, is_number_among, leaves, leaving, proposed_of}
use Rattle.trip_analysis.proofs.Joined.{one_joined, walks_there}
use Rattle.trip_analysis.proofs.Flagged.{flag_is}

pub pick : {A : Type 0} (P : A → Type 0) (b : Bool) (x y : A) → (b ≡ true → P x) → (b ≡ false → P y) → P (cond b x y)
pick P true x y p q = p refl
pick P false x y p q = q refl

-- no segment of a walk over those that may be passed fails
pub walk_meets : (base : BaseLists) (state : InForce) (truck a b : ℕ) (path : List ℕ) → IsWalk base.roads.segments (flagged (flags_of base state truck)) a b path → first_on base state truck path ≡ None
walk_meets base state truck a b [] walk = refl
walk_meets base state truck a b (i ∷ path) walk =
    let (s, at, may, from, rest) = walk in
    let passes : is_passable base state truck i ≡ true = sym (flag_is base state truck i (get_within base.roads.segments i s at)) ∙ may in
    meets_first (limit_for base state truck i) i (first_on base state truck path) passes ∙ walk_meets base state truck s.to b path rest
  where
    meets_first : (l : Option Limit) (i : ℕ) (rest : Option Failing) → is_none l ≡ true → first_or l i rest ≡ rest
    meets_first (Some l) i rest e = absurd (grind (arith, e))
    meets_first None i rest e = refl

-- a number is in a list by a test where it stands at a place
pub among_from_is_in : (v : ℕ) (numbers : List ℕ) → is_number_among v numbers ≡ true → IsAmong numbers v
among_from_is_in v [] e = absurd (grind (arith, e))
among_from_is_in v (n ∷ rest) e = more v n rest (n == v) refl e (among_from_is_in v rest)
  where
    more : (v n : ℕ) (rest : List ℕ) (b : Bool) → (n == v) ≡ b → (b || is_number_among v rest) ≡ true → (is_number_among v rest ≡ true → IsAmong rest v) → IsAmong (n ∷ rest) v
    more v n rest true is e h = let same : n ≡ v = eqb-true n v is in (0, ap (λ (k : ℕ). Some k) same)
    more v n rest false is e h = let (k, at) = h e in (suc k, at)

pub is_in_from_among : (v : ℕ) (numbers : List ℕ) (k : ℕ) → slice_get numbers k ≡ Some v → is_number_among v numbers ≡ true
is_in_from_among v [] k at = cc
is_in_from_among v (n ∷ rest) zero at = let same : n ≡ v = cc in let is : (n == v) ≡ true = eq-eqb n v same in ap (λ b. b || is_number_among v rest) is
is_in_from_among v (n ∷ rest) (suc k) at = more (n == v) (is_in_from_among v rest k at)
  where
    more : (b : Bool) {c : Bool} → c ≡ true → (b || c) ≡ true
    more true e = refl
    more false e = e

pub both : (a b : Bool) → (a && not b) ≡ true → (a ≡ true) × (b ≡ false)
both true true e = absurd (grind (arith, e))
both true false e = (refl, refl)
both false b e = absurd (grind (arith, e))

-- no segment of these may be passed, where none that leaves the nodes may be
none_out : (base : BaseLists) (state : InForce) (truck : ℕ) (nodes : List ℕ) → ((s : ℕ) → s < length base.roads.segments → leaves base.roads nodes s ≡ true → is_passable base state truck s ≡ false)
    → (a k : ℕ) → a + k ≤ length base.roads.segments → first_meeting base state truck (filter (leaves base.roads nodes) (range_with_len a k)) ≡ None
none_out base state truck nodes f a zero h = refl
none_out base state truck nodes f a (suc k) h =
    let rest = filter (leaves base.roads nodes) (range_with_len (a + 1) k) in
    let more : first_meeting base state truck rest ≡ None = none_out base state truck nodes f (a + 1) k (omega (arith, h)) in
    pick (λ list. first_meeting base state truck list ≡ None) (leaves base.roads nodes a) (a ∷ rest) rest
    (λ e. ap (λ b. cond b (Some a) (first_meeting base state truck rest)) (f a (omega (arith, h)) e) ∙ more) (λ _. more)

-- no segment out of the nodes that are reached may be passed
none_leaves : (base : BaseLists) (state : InForce) (truck from : ℕ) (may : ℕ → Bool) (nodes : List ℕ) → AreReached base.roads.segments may from nodes → ((s : ℕ) → s < length base.roads.segments → is_passable base state truck s ≡ true → may s ≡ true)
    → (s : ℕ) → s < length base.roads.segments → leaves base.roads nodes s ≡ true → is_passable base state truck s ≡ false
none_leaves base state truck from may nodes reached passes s within out =
    elim (cases_Bool (is_passable base state truck s)) [
      | inr no_pass ↦ no_pass
      | inl pass ↦
          let here = segment_at base.roads.segments s in
          let at : slice_get base.roads.segments s ≡ Some here = slice_get-get_or base.roads.segments s no_segment within in
          let (inside, outside) = both (is_number_among here.from nodes) (is_number_among here.to nodes) out in
          let (k, place) = reached_closed base.roads.segments may from nodes reached s here at (passes s within pass) (among_from_is_in here.from nodes inside) in
          absurd (grind (arith, outside, is_in_from_among here.to nodes k place))
    ]

cut_holds : (base : BaseLists) (state : InForce) (truck from : ℕ) (may : ℕ → Bool) (nodes : List ℕ) → AreReached base.roads.segments may from nodes → ((s : ℕ) → s < length base.roads.segments → is_passable base state truck s ≡ true → may s ≡ true)
    → first_meeting base state truck (leaving base.roads nodes) ≡ None
cut_holds base state truck from may nodes reached passes =
    none_out base state truck nodes (none_leaves base state truck from may nodes reached passes) 0 (length base.roads.segments - 0) (omega arith)

-- what a finding says: what it names is there, and it holds in its state
pub record IsUsable (base : BaseLists) (state : InForce) (truck : ℕ) (w : What) : Type 0 where
  pub range : InRange base w
  pub holds : HoldsIn base state truck w

free_usable : (base : BaseLists) (state : InForce) (a : Application) (f : Shortest) → IsRoads base.roads → Sound base a → IsShortest base.roads (flags_of base state a.truck) a.from a.to f → IsUsable base state a.truck (proposed_of f)
free_usable base state a (shortest.Route segments feet) ok sound h = record {
  range = All-same (λ s. s < length base.roads.segments) (concat (segments ∷ [])) segments (one_joined segments)
      (λ k d within. shortest_in_range base.roads (flags_of base state a.truck) a.from a.to (shortest.Route segments feet) ok sound.from h k (get_or segments k d) (slice_get-get_or segments k d within));
  holds = ap (first_on base state a.truck) (one_joined segments) ∙ walk_meets base state a.truck a.from a.to segments h.route.walk;
}
free_usable base state a (shortest.Cut reached) ok sound h = record {
  range = record { rising = h.nodes.rising };
  holds = cut_holds base state a.truck a.from (flagged (flags_of base state a.truck)) reached h.nodes (λ s within pass. flag_is base state a.truck s within ∙ pass);
}
free_usable base state a (shortest.NoRoad reached) ok sound h = record {
  range = record { rising = h.nodes.rising };
  holds = cut_holds base state a.truck a.from every reached h.nodes (λ s within pass. refl);
}

-- of a segment, if there is one, that it fails and has this property
abbrev FailsWith : BaseLists → InForce → ℕ → (ℕ → Type 0) → Option Failing → Type 0
FailsWith base state truck P (Some f) = P f.segment × (is_passable base state truck f.segment ≡ false)
FailsWith base state truck P None = Unit {0}

fails_first : (base : BaseLists) (state : InForce) (truck : ℕ) (P : ℕ → Type 0) (s : ℕ) (l : Option Limit) (rest : Option Failing) → limit_for base state truck s ≡ l → P s → FailsWith base state truck P rest → FailsWith base state truck P (first_or l s rest)
fails_first base state truck P s (Some l) rest e p had = (p, ap is_none e)
fails_first base state truck P s None rest e p had = had

fails_on : (base : BaseLists) (state : InForce) (truck : ℕ) (P : ℕ → Type 0) (route : List ℕ) → ByRecursion P route → FailsWith base state truck P (first_on base state truck route)
fails_on base state truck P [] h = tt
fails_on base state truck P (s ∷ rest) h = fails_first base state truck P s (limit_for base state truck s) (first_on base state truck rest) refl h.0 (fails_on base state truck P rest h.1)

asked_usable : (base : BaseLists) (state : InForce) (truck : ℕ) (routes : List (List ℕ)) (f : Option Failing) → first_on base state truck (concat routes) ≡ f → All (λ s. s < length base.roads.segments) (concat routes) → FailsWith base state truck (λ s. s < length base.roads.segments) f
    → IsUsable base state truck (asked_finding f routes)
asked_usable base state truck routes (Some f) e all h = record { range = h.0; holds = h.1 }
asked_usable base state truck routes None e all h = record { range = all; holds = e }

by_usable : (base : BaseLists) (state : InForce) (a : Application) (w : What) (asked : Option (List (List ℕ))) → IsRoads base.roads → Sound base a → IsAskedWalk base.roads a.from a.to asked → IsFoundBy base state a asked w → IsUsable base state a.truck w
by_usable base state a w (Some routes) ok sound walks h =
    let there = walks_there base.roads.segments every a.from a.to routes walks in
    let each = recursion_from_All (λ s. s < length base.roads.segments) (concat routes) there in
    subst (IsUsable base state a.truck) (sym h) (asked_usable base state a.truck routes (first_on base state a.truck (concat routes)) refl there (fails_on base state a.truck (λ s. s < length base.roads.segments) (concat routes) each))
by_usable base state a w None ok sound walks h =
    let (f, is_found, same) = h in subst (IsUsable base state a.truck) (sym same) (free_usable base state a f ok sound is_found)

pub usable : (base : BaseLists) (state : InForce) (a : Application) (w : What) → IsRoads base.roads → Sound base a → IsFinding base state a w → IsUsable base state a.truck w
usable base state a w ok sound h =
    elim (cases_Bool (needs_none base a.truck)) [
      | inl e ↦ subst (IsUsable base state a.truck) (sym (h.legal e)) (record { range = tt; holds = e })
      | inr e ↦ by_usable base state a w a.asked ok sound sound.asked (h.found e)
    ]

pub found_in_range : (base : BaseLists) (state : InForce) (a : Application) (w : What) → IsRoads base.roads → Sound base a → IsFinding base state a w → InRange base w
found_in_range base state a w ok sound h = (usable base state a w ok sound h).range

pub found_holds : (base : BaseLists) (state : InForce) (a : Application) (w : What) → IsRoads base.roads → Sound base a → IsFinding base state a w → HoldsIn base state a.truck w
found_holds base state a w ok sound h = (usable base state a w ok sound h).holds

-- what asked routes give is found, where the truck needs a permit
pub asked_found : (base : BaseLists) (state : InForce) (a : Application) (routes : List (List ℕ)) (w : What) → needs_none base a.truck ≡ false → a.asked ≡ Some routes → w ≡ asked_finding (first_on base state a.truck (concat routes)) routes → IsFinding base state a w
asked_found base state a routes w needs asked is = record {
  legal = λ legal. absurd (grind (arith, legal, needs));
  found = λ _. subst (λ (o : Option (List (List ℕ))). IsFoundBy base state a o w) (sym asked) is;
}
