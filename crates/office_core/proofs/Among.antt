-- The permits that a posting recalls are among those that use the segment it touches.
use Rattle.std.proofs.Common.{◌≡◌, ◌∷◌, ◌++◌, [], List, ℕ, ◌+◌, Bool, cond, true, false, ◌&&◌, not, map, filter, length, get_or, refl, ap, sym, subst, ◌∙◌, append_assoc, arith}
use Rattle.std.specs.List.{All, concat}
use Rattle.std.proofs.lemmas.Bool.{and_from, and_parts}
use Rattle.std.proofs.lemmas.List.{length-append}
use Rattle.std.proofs.lemmas.List.Elements.{All-head, All-tail}
use Rattle.restriction_log.specs.States.{InForce}
use Rattle.permit_book.specs.declared.permit.Permit.{Permit}
use Rattle.permit_book.specs.Permits.{AreNumbered, in_force, is_live, permit_of}
use Rattle.trip_analysis.specs.Bases.{BaseLists}
use Rattle.trip_analysis.specs.Passing.{is_passable}
use Rattle.trip_analysis.specs.Findings.{is_number_among}
use Rattle.office_core.specs.Recalls.{InForceMeetElsewhere, MeetsElsewhereIfInForce, fails, is_recalled, recalled_by}
use Rattle.office_core.specs.Users.{users_of, uses}
use Rattle.office_core.proofs.ByNumber.{found_seam}
use Rattle.office_core.proofs.Forces.{live_in_force}
use Rattle.office_core.proofs.Touching.{fails_there}

module _ (test keep : Permit → Bool) where
  -- a filter of those that another one keeps
  filter_within : (ps : List Permit) → All (λ p. test p ≡ true → keep p ≡ true) ps → filter test ps ≡ filter test (filter keep ps)
  filter_within [] h = refl
  filter_within (p ∷ ps) h = by (test p) (keep p) refl (All-head (λ q. test q ≡ true → keep q ≡ true) p ps h) (filter_within ps (All-tail (λ q. test q ≡ true → keep q ≡ true) p ps h))
    where
      by : (t k : Bool) → test p ≡ t → (t ≡ true → k ≡ true) → filter test ps ≡ filter test (filter keep ps) → cond t (p ∷ filter test ps) (filter test ps) ≡ filter test (cond k (p ∷ filter keep ps) (filter keep ps))
      by true true is h more = rw is (ap (λ l. p ∷ l) more)
      by true false is h more = absurd (grind (arith, h refl))
      by false true is h more = rw is more
      by false false is h more = more

  -- the permits of these numbers are those of the list
  by_number : (all done rest : List Permit) → all ≡ done ++ rest → AreNumbered (length done) rest → filter (λ n. test (permit_of all n)) (map (λ p. p.number) (filter keep rest)) ≡ map (λ p. p.number) (filter test (filter keep rest))
  by_number all done [] e h = refl
  by_number all done (p ∷ rest) e h =
      let longer : length done + 1 ≡ length (done ++ p ∷ []) = omega (arith, length-append done (p ∷ [])) in
      one (keep p) (by_number all (done ++ p ∷ []) rest (e ∙ sym (append_assoc done (p ∷ []) rest)) (subst (λ (n : ℕ). AreNumbered n rest) longer h.1)) (ap (λ (l : List Permit). permit_of l p.number) e ∙ found_seam done p rest h.0)
    where
      left : List ℕ
      left = filter (λ n. test (permit_of all n)) (map (λ p. p.number) (filter keep rest))

      two : (b : Bool) → left ≡ map (λ p. p.number) (filter test (filter keep rest)) → cond b (p.number ∷ left) left ≡ map (λ p. p.number) (cond b (p ∷ filter test (filter keep rest)) (filter test (filter keep rest)))
      two true more = ap (λ l. p.number ∷ l) more
      two false more = more

      one : (b : Bool) → left ≡ map (λ p. p.number) (filter test (filter keep rest)) → permit_of all p.number ≡ p
          → filter (λ n. test (permit_of all n)) (map (λ p. p.number) (cond b (p ∷ filter keep rest) (filter keep rest))) ≡ map (λ p. p.number) (filter test (cond b (p ∷ filter keep rest) (filter keep rest)))
      one true more at = ap (λ (q : Permit). cond (test q) (p.number ∷ left) left) at ∙ two (test p) more
      one false more at = more

-- a permit that a state recalls, and that meets it at each segment but one, uses that segment
recalled_uses : (base : BaseLists) (state : InForce) (segment : ℕ) (day : List ℕ) (p : Permit) → MeetsElsewhereIfInForce base state segment day p → is_recalled base state day p ≡ true → uses segment p ≡ true
recalled_uses base state segment day p elsewhere is =
    let both = and_parts (in_force day p) (fails base state p) is in
    let on = and_parts (is_number_among segment (concat p.trip.routes)) (not (is_passable base state p.trip.truck segment)) (sym (fails_there base state segment p (elsewhere both.0)) ∙ both.1) in
    and_from (is_live p.mark) (is_number_among segment (concat p.trip.routes)) (live_in_force p day both.0) on.0

-- so those that it recalls are found among the permits that use the segment
pub recalled_among : (base : BaseLists) (state : InForce) (segment : ℕ) (day : List ℕ) (ps : List Permit) → AreNumbered 0 ps → InForceMeetElsewhere base state segment day ps
    → filter (λ n. is_recalled base state day (permit_of ps n)) (users_of segment ps) ≡ recalled_by base state day ps
recalled_among base state segment day ps numbered elsewhere =
    by_number (is_recalled base state day) (uses segment) ps [] ps refl numbered
    ∙ sym (ap (map (λ (p : Permit). p.number)) (filter_within (is_recalled base state day) (uses segment) ps (λ k d low. recalled_uses base state segment day (get_or ps k d) (elsewhere k d low))))

-- the test of that segment decides
pub recalled_if_failing : (base : BaseLists) (state : InForce) (segment : ℕ) (day : List ℕ) (p : Permit) → MeetsElsewhereIfInForce base state segment day p → uses segment p ≡ true
    → in_force day p ≡ true → not (is_passable base state p.trip.truck segment) ≡ is_recalled base state day p
recalled_if_failing base state segment day p elsewhere use' on =
    let holds = (and_parts (is_live p.mark) (is_number_among segment (concat p.trip.routes)) use').1 in
    sym (ap (λ b. b && fails base state p) on ∙ (fails_there base state segment p (elsewhere on) ∙ ap (λ b. b && not (is_passable base state p.trip.truck segment)) holds))
