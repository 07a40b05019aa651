-- What did not change after a version is as it was then: along segments that met, and out of a cut that failed.
use Rattle.std.proofs.Common.{◌≡◌, [], ◌∷◌, List, ℕ, zero, suc, ◌+◌, ◌-◌, ◌<◌, ◌≤◌, ◌&&◌, Bool, cond, true, false, length, get_or, take, drop, filter, inl, inr, refl, ap, sym, subst, ◌∙◌, zero-add, arith}
use Rattle.std.specs.List.{concat}
use Rattle.std.specs.Prelude.{Option, Some, None, is_none}
use Rattle.std.proofs.lemmas.Bool.{and_parts, cases_Bool}
use Rattle.std.proofs.lemmas.List.{drop_more}
use Rattle.std.proofs.Math.Seq.{drop-length}
use Rattle.restriction_log.specs.declared.change.Change.{Change}
use Rattle.restriction_log.specs.Changes.{is_touched}
use Rattle.restriction_log.specs.States.{state_of}
use Rattle.restriction_log.proofs.Elsewhere.{agree-since}
use Rattle.clearance_rules.specs.declared.limit.Limit.{Limit}
use Rattle.clearance_rules.proofs.Agreeing.{limits_agree}
use Rattle.trip_analysis.specs.declared.failing.Failing.{Failing}
use Rattle.trip_analysis.specs.declared.finding.What.{What}
use Rattle.trip_analysis.specs.declared.finding.What.TheVariants as what
use Rattle.trip_analysis.specs.Bases.{BaseLists, truck_of}
use Rattle.trip_analysis.specs.Passing.{first_on, first_or, is_passable, limit_for}
use Rattle.trip_analysis.specs.Findings.{first_meeting, leaves, leaving, leaving_from}
use Rattle.trip_analysis.proofs.Crossing.{leaving_no, leaving_none, leaving_yes}
use Rattle.office_words.specs.declared.entry.Call.{Call}
use Rattle.office_words.specs.declared.entry.Call.TheVariants as call
use Rattle.office_core.specs.Costs.{IsCost}
use Rattle.office_core.specs.Machine.{Machine}
use Rattle.office_core.specs.Retests.{AreTestsWithin, changed_on, is_changed}

if_counted : (b : Bool) (s : ℕ) (l : List ℕ) → length (cond b (s ∷ l) l) ≡ cond b 1 0 + length l
if_counted true s l = omega arith
if_counted false s l = omega arith

both_none : (l : Option Limit) (s : ℕ) (rest : Option Failing) → first_or l s rest ≡ None → (l ≡ None) × (rest ≡ None)
both_none (Some l) s rest e = absurd (grind (arith, e))
both_none None s rest e = (refl, e)

none_meets : (b : Bool) (s : ℕ) (rest : Option ℕ) → cond b (Some s) rest ≡ None → (b ≡ false) × (rest ≡ None)
none_meets true s rest e = absurd (grind (arith, e))
none_meets false s rest e = (refl, e)

-- a segment that did not change has the limit that it had
limit_stays : (base : BaseLists) (postings : List Change) (seen truck s : ℕ) → is_changed base postings seen s ≡ false
    → limit_for base (state_of base.roads postings) truck s ≡ limit_for base (state_of base.roads (take seen postings)) truck s
limit_stays base postings seen truck s same =
    limits_agree base.roads (state_of base.roads (take seen postings)) (state_of base.roads postings) (truck_of base truck).load s
    (agree-since base.roads s seen postings same)

counted : (base : BaseLists) (postings : List Change) (seen s : ℕ) (rest : List ℕ)
    → changed_on base postings seen (s ∷ rest) ≡ cond (is_changed base postings seen s) 1 0 + changed_on base postings seen rest
counted base postings seen s rest = if_counted (is_changed base postings seen s) s (filter (is_changed base postings seen) rest)

-- one segment further along segments that met at a version, where this one has no limit or did not change
pub record AlongOn (base : BaseLists) (postings : List Change) (seen truck : ℕ) (segments : List ℕ) (i before after : ℕ) : Type 0 where
  pub left : first_on base (state_of base.roads postings) truck (drop i segments) ≡ first_on base (state_of base.roads postings) truck segments
  pub met : first_on base (state_of base.roads (take seen postings)) truck (drop i segments) ≡ None
  pub steps : after + changed_on base postings seen (drop i segments) ≤ before + changed_on base postings seen segments

pub along_none : (base : BaseLists) (postings : List Change) (seen truck : ℕ) (segments : List ℕ) (before : ℕ)
    → first_on base (state_of base.roads (take seen postings)) truck segments ≡ None → AlongOn base postings seen truck segments 0 before before
along_none base postings seen truck segments before met = record { left = refl; met = met; steps = omega arith }

passes : (base : BaseLists) (postings : List Change) (seen truck s : ℕ) (rest : List ℕ) (b : Bool) → b ≡ is_changed base postings seen s
    → None ≡ cond b (limit_for base (state_of base.roads postings) truck s) None → limit_for base (state_of base.roads (take seen postings)) truck s ≡ None
    → limit_for base (state_of base.roads postings) truck s ≡ None
passes base postings seen truck s rest true changed none met = sym none
passes base postings seen truck s rest false changed none met = limit_stays base postings seen truck s (sym changed) ∙ met

pub along_more : (base : BaseLists) (postings : List Change) (seen truck : ℕ) (segments : List ℕ) (i s before now after : ℕ) → i < length segments → s ≡ get_or segments i 0
    → None ≡ cond (is_changed base postings seen s) (limit_for base (state_of base.roads postings) truck s) None
    → after ≡ now + cond (is_changed base postings seen s) 1 0 → AlongOn base postings seen truck segments i before now
    → AlongOn base postings seen truck segments (i + 1) before after
along_more base postings seen truck segments i s before now after inside is none more on =
    let new = state_of base.roads postings in let old = state_of base.roads (take seen postings) in
    let rest = drop (i + 1) segments in
    let here : drop i segments ≡ s ∷ rest = drop_more segments i 0 inside ∙ ap (λ k. k ∷ rest) (sym is) in
    let met = both_none (limit_for base old truck s) s (first_on base old truck rest) (ap (first_on base old truck) (sym here) ∙ on.met) in
    let free = passes base postings seen truck s rest (is_changed base postings seen s) refl none met.0 in
    let pass : first_on base new truck (s ∷ rest) ≡ first_on base new truck rest = ap (λ l. first_or l s (first_on base new truck rest)) free in
    let count : changed_on base postings seen (drop i segments) ≡ cond (is_changed base postings seen s) 1 0 + changed_on base postings seen rest =
    ap (changed_on base postings seen) here ∙ counted base postings seen s rest in
    record {
      left = sym pass ∙ (ap (first_on base new truck) (sym here) ∙ on.left);
      met = met.1;
      steps = omega (arith, on.steps, more, count);
    }

-- one segment further out of a cut that failed at a version, where this one fails or did not change
pub record CutOn (base : BaseLists) (postings : List Change) (seen truck : ℕ) (nodes : List ℕ) (start before after : ℕ) : Type 0 where
  pub within : start ≤ length base.roads.segments
  pub left : first_meeting base (state_of base.roads postings) truck (leaving_from base.roads nodes start) ≡ first_meeting base (state_of base.roads postings) truck (leaving base.roads nodes)
  pub failed : first_meeting base (state_of base.roads (take seen postings)) truck (leaving_from base.roads nodes start) ≡ None
  pub steps : after + changed_on base postings seen (leaving_from base.roads nodes start) ≤ before + changed_on base postings seen (leaving base.roads nodes)

pub cut_none : (base : BaseLists) (postings : List Change) (seen truck : ℕ) (nodes : List ℕ) (before : ℕ)
    → first_meeting base (state_of base.roads (take seen postings)) truck (leaving base.roads nodes) ≡ None → CutOn base postings seen truck nodes 0 before before
cut_none base postings seen truck nodes before failed = record { within = omega arith; left = refl; failed = failed; steps = omega arith }

fails : (base : BaseLists) (postings : List Change) (seen truck s : ℕ) (b : Bool) → b ≡ is_changed base postings seen s
    → (b && is_passable base (state_of base.roads postings) truck s) ≡ false → is_passable base (state_of base.roads (take seen postings)) truck s ≡ false
    → is_passable base (state_of base.roads postings) truck s ≡ false
fails base postings seen truck s true changed now then = now
fails base postings seen truck s false changed now then = ap (λ (l : Option Limit). is_none l) (limit_stays base postings seen truck s (sym changed)) ∙ then

pub cut_more : (base : BaseLists) (postings : List Change) (seen truck : ℕ) (nodes : List ℕ) (start s before now after : ℕ) → s < length base.roads.segments
    → leaving_from base.roads nodes start ≡ s ∷ leaving_from base.roads nodes (s + 1)
    → (is_changed base postings seen s && is_passable base (state_of base.roads postings) truck s) ≡ false
    → after ≡ now + cond (is_changed base postings seen s) 1 0 → CutOn base postings seen truck nodes start before now
    → CutOn base postings seen truck nodes (s + 1) before after
cut_more base postings seen truck nodes start s before now after there out shut more on =
    let new = state_of base.roads postings in let old = state_of base.roads (take seen postings) in
    let rest = leaving_from base.roads nodes (s + 1) in
    let then = none_meets (is_passable base old truck s) s (first_meeting base old truck rest) (ap (first_meeting base old truck) (sym out) ∙ on.failed) in
    let still = fails base postings seen truck s (is_changed base postings seen s) refl shut then.0 in
    let pass : first_meeting base new truck (s ∷ rest) ≡ first_meeting base new truck rest = ap (λ b. cond b (Some s) (first_meeting base new truck rest)) still in
    let count : changed_on base postings seen (leaving_from base.roads nodes start) ≡ cond (is_changed base postings seen s) 1 0 + changed_on base postings seen rest =
    ap (changed_on base postings seen) out ∙ counted base postings seen s rest in
    record {
      within = omega (arith, there);
      left = sym pass ∙ (ap (first_meeting base new truck) (sym out) ∙ on.left);
      failed = then.1;
      steps = omega (arith, on.steps, more, count);
    }

-- the same where only what changed is looked at: one that did not change needs no look, one that changed is tested if it leaves
module _ (base : BaseLists) (postings : List Change) (seen truck : ℕ) (nodes : List ℕ) where
  unmoved : (now : ℕ) → now + cond {A = ℕ} false 1 0 ≡ now
  unmoved now = omega arith

  inside : (s before now : ℕ) → s < length base.roads.segments → leaves base.roads nodes s ≡ false → CutOn base postings seen truck nodes s before now
      → CutOn base postings seen truck nodes (s + 1) before now
  inside s before now there in_it on =
      let same = leaving_no base.roads nodes s there in_it in
      record {
        within = omega (arith, there);
        left = ap (first_meeting base (state_of base.roads postings) truck) (sym same) ∙ on.left;
        failed = ap (first_meeting base (state_of base.roads (take seen postings)) truck) (sym same) ∙ on.failed;
        steps = (let count = ap (changed_on base postings seen) same in omega (arith, on.steps, count));
      }

  kept : (s before now : ℕ) → s < length base.roads.segments → is_changed base postings seen s ≡ false → CutOn base postings seen truck nodes s before now
      → CutOn base postings seen truck nodes (s + 1) before now
  kept s before now there same on = elim (cases_Bool (leaves base.roads nodes s)) [
    | inl out ↦ cut_more base postings seen truck nodes s s before now now there (leaving_yes base.roads nodes s there out)
        (ap (λ b. b && is_passable base (state_of base.roads postings) truck s) same)
        (sym (ap (λ b. now + cond {A = ℕ} b 1 0) same ∙ unmoved now)) on
    | inr in_it ↦ inside s before now there in_it on
  ]

  passed : (from k before now : ℕ) → from + k ≤ length base.roads.segments → ((s : ℕ) → from ≤ s → s < from + k → is_changed base postings seen s ≡ false)
      → CutOn base postings seen truck nodes from before now → CutOn base postings seen truck nodes (from + k) before now
  passed from zero before now there same on = let at : from ≡ from + 0 = omega arith in subst (λ k. CutOn base postings seen truck nodes k before now) at on
  passed from (suc k) before now there same on = let at : from + k + 1 ≡ from + suc k = omega arith in subst (λ k. CutOn base postings seen truck nodes k before now) at
      (kept (from + k) before now (omega (arith, there)) (same (from + k) (omega arith) (omega arith))
      (passed from k before now (omega (arith, there)) (λ s low high. same s low (omega (arith, high))) on))

  pub cut_passed : (from s before now : ℕ) → from ≤ s → s ≤ length base.roads.segments → ((i : ℕ) → from ≤ i → i < s → is_changed base postings seen i ≡ false)
      → CutOn base postings seen truck nodes from before now → CutOn base postings seen truck nodes s before now
  cut_passed from s before now low there same on =
      let at : from + (s - from) ≡ s = omega (arith, low) in
      subst (λ k. CutOn base postings seen truck nodes k before now) at
      (passed from (s - from) before now (omega (arith, low, there)) (λ i first h. same i first (omega (arith, h, low))) on)

  pub cut_tried : (s before now after : ℕ) → s < length base.roads.segments → is_changed base postings seen s ≡ true
      → (leaves base.roads nodes s && is_passable base (state_of base.roads postings) truck s) ≡ false
      → after ≡ now + cond (leaves base.roads nodes s) 1 0 → CutOn base postings seen truck nodes s before now
      → CutOn base postings seen truck nodes (s + 1) before after
  cut_tried s before now after there changed shut more on = elim (cases_Bool (leaves base.roads nodes s)) [
    | inl out ↦ let new = is_passable base (state_of base.roads postings) truck s in
        cut_more base postings seen truck nodes s s before now after there (leaving_yes base.roads nodes s there out)
        (ap (λ b. b && new) changed ∙ (ap (λ b. b && new) (sym out) ∙ shut))
        (more ∙ (ap (λ b. now + cond b 1 0) out ∙ ap (λ b. now + cond b 1 0) (sym changed))) on
    | inr in_it ↦ let none : after ≡ now = more ∙ (ap (λ b. now + cond {A = ℕ} b 1 0) in_it ∙ unmoved now) in
        subst (λ k. CutOn base postings seen truck nodes (s + 1) before k) (sym none) (inside s before now there in_it on)
  ]

  -- one that leaves and may be passed is the least
  pub cut_found : (s before now after : ℕ) → s < length base.roads.segments → is_changed base postings seen s ≡ true
      → (leaves base.roads nodes s && is_passable base (state_of base.roads postings) truck s) ≡ true
      → after ≡ now + cond (leaves base.roads nodes s) 1 0 → CutOn base postings seen truck nodes s before now
      → (Some s ≡ first_meeting base (state_of base.roads postings) truck (leaving base.roads nodes))
      × (after ≤ before + changed_on base postings seen (leaving base.roads nodes))
  cut_found s before now after there changed meets more on =
      let new = state_of base.roads postings in
      let rest = leaving_from base.roads nodes (s + 1) in
      let both = and_parts (leaves base.roads nodes s) (is_passable base new truck s) meets in
      let out = leaving_yes base.roads nodes s there both.0 in
      let first : first_meeting base new truck (s ∷ rest) ≡ Some s = ap (λ b. cond b (Some s) (first_meeting base new truck rest)) both.1 in
      let count : changed_on base postings seen (leaving_from base.roads nodes s) ≡ 1 + changed_on base postings seen rest =
      ap (changed_on base postings seen) out ∙ (counted base postings seen s rest ∙ ap (λ b. cond b 1 0 + changed_on base postings seen rest) changed) in
      let one : after ≡ now + 1 = more ∙ ap (λ b. now + cond b 1 0) both.0 in
      (sym first ∙ (ap (first_meeting base new truck) (sym out) ∙ on.left), omega (arith, on.steps, count, one))

  -- behind the last segment none is left
  pub cut_done : (before now : ℕ) → CutOn base postings seen truck nodes (length base.roads.segments) before now
      → (None ≡ first_meeting base (state_of base.roads postings) truck (leaving base.roads nodes))
      × (now ≤ before + changed_on base postings seen (leaving base.roads nodes))
  cut_done before now on =
      let none = leaving_none base.roads nodes (length base.roads.segments) (omega arith) in
      (sym (ap (first_meeting base (state_of base.roads postings) truck) none) ∙ on.left, omega (arith, on.steps))

-- to test nothing is within what any call may cost
within_none : (base : BaseLists) (postings : List Change) (seen : ℕ) (w : What) (n : ℕ) → AreTestsWithin base postings seen w n n
within_none base postings seen what.NotNeeded n = refl
within_none base postings seen (what.Route routes) n = omega arith
within_none base postings seen (what.Fails s) n = omega arith
within_none base postings seen (what.Cut nodes) n = omega arith

-- what is found at the current version is answered by one test at the most, since nothing changed after it
none_changed : (base : BaseLists) (postings : List Change) (segments : List ℕ) → changed_on base postings (length postings) segments ≡ 0
none_changed base postings [] = refl
none_changed base postings (s ∷ rest) =
    counted base postings (length postings) s rest
    ∙ (ap (λ (c : List Change). cond (is_touched base.roads s c) 1 0 + changed_on base postings (length postings) rest) (drop-length postings)
    ∙ (zero-add (changed_on base postings (length postings) rest) ∙ none_changed base postings rest))

pub within_now : (base : BaseLists) (postings : List Change) (w : What) (before now : ℕ)
    → AreTestsWithin base postings (length postings) w before now → now ≤ before + 1
within_now base postings what.NotNeeded before now within = omega (arith, within)
within_now base postings (what.Route routes) before now within = omega (arith, within, none_changed base postings (concat routes))
within_now base postings (what.Fails s) before now within = within
within_now base postings (what.Cut nodes) before now within =
    omega (arith, within, none_changed base postings (leaving base.roads nodes))

pub cost_none : (base : BaseLists) (m : Machine) (c : Call) (n : ℕ) → IsCost base m c n n
cost_none base m call.Snapshot n = refl
cost_none base m (call.Submit a p) n = (λ early. refl, within_none base m.postings p.seen p.what n)
cost_none base m (call.Held a) n = (λ early. refl, omega arith)
cost_none base m (call.Post change) n = omega arith
cost_none base m (call.Day day) n = refl
cost_none base m (call.Surrender number) n = refl
cost_none base m (call.Show number) n = refl
