-- A posting can make a permit in force fail at the segment alone that it touches.
use Rattle.std.proofs.Common.{◌≡◌, ◌≢◌, ◌∷◌, ◌++◌, [], ◌&&◌, ◌||◌, ◌==◌, List, ℕ, Bool, true, false, not, refl, ap, ◌∙◌, is_none}
use Rattle.std.specs.List.{All, concat, list_any}
use Rattle.std.proofs.lemmas.Bool.{eqb-false, eqb-true, or_parts}
use Rattle.std.proofs.lemmas.List.Elements.{All-cons, All-head, All-nil, All-tail, All-weaker}
use Rattle.restriction_log.specs.declared.change.Change.{Change}
use Rattle.restriction_log.specs.Changes.{touched}
use Rattle.restriction_log.specs.States.{InForce, state_after, state_of}
use Rattle.restriction_log.proofs.Elsewhere.{agree-after, state-posted}
use Rattle.clearance_rules.proofs.Agreeing.{limits_agree}
use Rattle.permit_book.specs.declared.permit.Permit.{Permit}
use Rattle.permit_book.specs.Permits.{in_force}
use Rattle.trip_analysis.specs.Bases.{BaseLists, truck_of}
use Rattle.trip_analysis.specs.Passing.{is_passable}
use Rattle.trip_analysis.specs.Findings.{is_number_among}
use Rattle.office_core.specs.Recalls.{InForceMeet, InForceMeetElsewhere, MeetsElsewhere, fails}

not_false : (b : Bool) → not b ≡ false → b ≡ true
not_false true e = refl
not_false false e = absurd (cc e)

absorbed : (q i : Bool) → (not q || (i && not q)) ≡ not q
absorbed true true = refl
absorbed true false = refl
absorbed false i = refl

-- one number more: it is the one that may fail, or it passes
one_more : (b p q i x : Bool) → (b ≡ true → p ≡ q) → (b ≡ false → p ≡ true) → x ≡ (i && not q) → (not p || x) ≡ ((b || i) && not q)
one_more true p q i x same passes again = rw (same refl, again) (absorbed q i)
one_more false p q i x same passes again = rw (passes refl, again) refl

-- of numbers that pass but for one, some fail where that one is among them and fails
fails_on : (pass : ℕ → Bool) (segment : ℕ) (route : List ℕ) → All (λ s. s ≢ segment → pass s ≡ true) route → list_any (λ s. not (pass s)) route ≡ (is_number_among segment route && not (pass segment))
fails_on pass segment [] h = refl
fails_on pass segment (s ∷ rest) h =
    let head = All-head (λ n. n ≢ segment → pass n ≡ true) s rest h in
    let tail = All-tail (λ n. n ≢ segment → pass n ≡ true) s rest h in
    one_more (s == segment) (pass s) (pass segment) (is_number_among segment rest) (list_any (λ n. not (pass n)) rest)
    (λ e. ap pass (eqb-true s segment e)) (λ e. head (eqb-false s segment e)) (fails_on pass segment rest tail)

-- a permit that meets its truck at each segment but one fails where that one is on its route and fails
pub fails_there : (base : BaseLists) (state : InForce) (segment : ℕ) (p : Permit) → MeetsElsewhere base state segment p → fails base state p ≡ (is_number_among segment (concat p.trip.routes) && not (is_passable base state p.trip.truck segment))
fails_there base state segment p h = fails_on (is_passable base state p.trip.truck) segment (concat p.trip.routes) h

-- numbers that passed pass still where they are tested alike
passes_on : (old new : ℕ → Bool) (segment : ℕ) → ((s : ℕ) → s ≢ segment → new s ≡ old s) → (route : List ℕ) → list_any (λ s. not (old s)) route ≡ false → All (λ s. s ≢ segment → new s ≡ true) route
passes_on old new segment alike [] h = All-nil (λ s. s ≢ segment → new s ≡ true)
passes_on old new segment alike (s ∷ rest) h =
    let both = or_parts (not (old s)) (list_any (λ n. not (old n)) rest) h in
    All-cons (λ n. n ≢ segment → new n ≡ true) s rest (λ apart. alike s apart ∙ not_false (old s) both.0) (passes_on old new segment alike rest both.1)

-- a change leaves each other segment as passable as it was
alike_after : (base : BaseLists) (state : InForce) (change : Change) (truck s : ℕ) → s ≢ touched base.roads change → is_passable base (state_after state change) truck s ≡ is_passable base state truck s
alike_after base state change truck s apart = ap is_none (limits_agree base.roads state (state_after state change) (truck_of base truck).load s (agree-after base.roads s state change apart))

-- permits in force that met the roads meet them after a change but at the segment that it touches
meet_elsewhere : (base : BaseLists) (state : InForce) (change : Change) (day : List ℕ) (permits : List Permit) → InForceMeet base state day permits → InForceMeetElsewhere base (state_after state change) (touched base.roads change) day permits
meet_elsewhere base state change day permits had =
    All-weaker (λ p. in_force day p ≡ true → fails base state p ≡ false) (λ p. in_force day p ≡ true → MeetsElsewhere base (state_after state change) (touched base.roads change) p)
    (λ p fine on. passes_on (is_passable base state p.trip.truck) (is_passable base (state_after state change) p.trip.truck) (touched base.roads change) (alike_after base state change p.trip.truck) (concat p.trip.routes) (fine on)) permits had

pub met_elsewhere : (base : BaseLists) (postings : List Change) (next : InForce) (change : Change) (segment : ℕ) (day : List ℕ) (permits : List Permit) → next ≡ state_of base.roads (postings ++ change ∷ []) → segment ≡ touched base.roads change
    → InForceMeet base (state_of base.roads postings) day permits → InForceMeetElsewhere base next segment day permits
met_elsewhere base postings next change segment day permits is there had =
    rw (there, is, state-posted base.roads postings change) (meet_elsewhere base (state_of base.roads postings) change day permits had)
