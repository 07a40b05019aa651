-- Marking by number is marking each permit that passes a test.
use Rattle.std.proofs.Common.{◌≡◌, ◌∷◌, ◌++◌, [], List, ℕ, ◌+◌, ◌-◌, Bool, cond, true, false, map, filter, length, set, get_or, ap, sym, subst, refl, ◌∙◌, arith, append_assoc}
use Rattle.std.proofs.lemmas.List.{length-append}
use Rattle.std.proofs.Math.Seq.{get_or-append_seam}
use Rattle.std.specs.Cmp.{first_so}
use Rattle.std.proofs.lemmas.Bool.Decides.{nat_tests}
use Rattle.restriction_log.specs.States.{InForce}
use Rattle.permit_book.specs.declared.permit.Permit.{Permit}
use Rattle.permit_book.specs.declared.permit.Mark.{Mark}
use Rattle.permit_book.specs.Permits.{permit_of, no_permit, is_issued, marked, in_force, is_live, AreNumbered}
use Rattle.trip_analysis.specs.Bases.{BaseLists}
use Rattle.office_core.specs.Recalls.{fails, is_recalled, recalled_by, recalled_now, marked_all, AreLive}
use Rattle.permit_book.specs.declared.permit.Mark.TheVariants as mark
use Rattle.office_core.proofs.Forces.{live_in_force}

set_seam : {A : Type 0} (xs : List A) (y z : A) (ys : List A) → set (xs ++ y ∷ ys) (length xs) z ≡ xs ++ z ∷ ys
set_seam [] y z ys = refl
set_seam (x ∷ xs) y z ys = ap (λ l. x ∷ l) (set_seam xs y z ys)

issued_seam : (done : List Permit) (p : Permit) (rest : List Permit) → p.number ≡ length done + 1 → is_issued (done ++ p ∷ rest) p.number ≡ true
issued_seam done p rest e = grind (arith, nat_tests, e, length-append done (p ∷ rest))

pub found_seam : (done : List Permit) (p : Permit) (rest : List Permit) → p.number ≡ length done + 1 → permit_of (done ++ p ∷ rest) p.number ≡ p
found_seam done p rest e = let at : p.number - 1 ≡ length done = omega (arith, e) in
    ap (λ k. get_or (done ++ p ∷ rest) k no_permit) at ∙ get_or-append_seam done p rest no_permit

module _ (test : Permit → Bool) (m : Mark) where
  abbrev mark_if : Permit → Permit
  mark_if p = cond (test p) (record p { mark = m }) p

  abbrev numbers : List Permit → List ℕ
  numbers ps = map (λ p. p.number) (filter test ps)

  marked_seam : (done : List Permit) (p : Permit) (rest : List Permit) → p.number ≡ length done + 1 → marked (done ++ p ∷ rest) p.number m ≡ (done ++ (record p { mark = m }) ∷ []) ++ rest
  marked_seam done p rest e = let at : p.number - 1 ≡ length done = omega (arith, e) in
      let found : permit_of (done ++ p ∷ rest) p.number ≡ p = found_seam done p rest e in
      ap (λ k. set (done ++ p ∷ rest) k (record (permit_of (done ++ p ∷ rest) p.number) { mark = m })) at
      ∙ (ap (λ (q : Permit). set (done ++ p ∷ rest) (length done) (record q { mark = m })) found
      ∙ (set_seam done p (record p { mark = m }) rest ∙ sym (append_assoc done ((record p { mark = m }) ∷ []) rest)))

  mark_one : (done : List Permit) (p : Permit) (rest : List Permit) → p.number ≡ length done + 1 → ((q : Permit) → marked_all m ((done ++ q ∷ []) ++ rest) (numbers rest) ≡ (done ++ q ∷ []) ++ map mark_if rest)
      → (b : Bool) → marked_all m (done ++ p ∷ rest) (map (λ p. p.number) (cond b (p ∷ filter test rest) (filter test rest))) ≡ done ++ cond b (record p { mark = m }) p ∷ map mark_if rest
  mark_one done p rest h again true = let q : Permit = record p { mark = m } in
      ap (λ l. marked_all m l (numbers rest)) (marked_seam done p rest h) ∙ (again q ∙ append_assoc done (q ∷ []) (map mark_if rest))
  mark_one done p rest h again false = ap (λ l. marked_all m l (numbers rest)) (sym (append_assoc done (p ∷ []) rest)) ∙ (again p ∙ append_assoc done (p ∷ []) (map mark_if rest))

  mark_rest : (done rest : List Permit) → AreNumbered (length done) rest → marked_all m (done ++ rest) (numbers rest) ≡ done ++ map mark_if rest
  mark_rest done [] h = refl
  mark_rest done (p ∷ rest) h = mark_one done p rest h.0
      (λ q. let e : length done + 1 ≡ length (done ++ q ∷ []) = omega (arith, length-append done (q ∷ [])) in mark_rest (done ++ q ∷ []) rest (subst (λ (n : ℕ). AreNumbered n rest) e h.1)) (test p)

  pub marked_by_number : (permits : List Permit) → AreNumbered 0 permits → marked_all m permits (numbers permits) ≡ map mark_if permits
  marked_by_number permits h = mark_rest [] permits h

  -- each that passes is live still when those before it are marked, where each that passes is live
  module _ (live : (p : Permit) → test p ≡ true → is_live p.mark ≡ true) where
    live_one : (done : List Permit) (p : Permit) (rest : List Permit) → p.number ≡ length done + 1 → ((q : Permit) → AreLive m ((done ++ q ∷ []) ++ rest) (numbers rest))
        → (b : Bool) → (b ≡ true → is_live p.mark ≡ true) → AreLive m (done ++ p ∷ rest) (map (λ p. p.number) (cond b (p ∷ filter test rest) (filter test rest)))
    live_one done p rest h again true is = (
      issued_seam done p rest h,
      ap (λ (q : Permit). is_live q.mark) (found_seam done p rest h) ∙ is refl,
      subst (λ (l : List Permit). AreLive m l (numbers rest)) (sym (marked_seam done p rest h)) (again (record p { mark = m })),
    )
    live_one done p rest h again false is = subst (λ (l : List Permit). AreLive m l (numbers rest)) (append_assoc done (p ∷ []) rest) (again p)

    live_rest : (done rest : List Permit) → AreNumbered (length done) rest → AreLive m (done ++ rest) (numbers rest)
    live_rest done [] h = tt
    live_rest done (p ∷ rest) h = live_one done p rest h.0
        (λ q. let e : length done + 1 ≡ length (done ++ q ∷ []) = omega (arith, length-append done (q ∷ [])) in live_rest (done ++ q ∷ []) rest (subst (λ (n : ℕ). AreNumbered n rest) e h.1)) (test p) (live p)

    pub live_by_number : (permits : List Permit) → AreNumbered 0 permits → AreLive m permits (numbers permits)
    live_by_number permits h = live_rest [] permits h

pub recalled_live : (base : BaseLists) (state : InForce) (day : List ℕ) (v : ℕ) (ps : List Permit) → AreNumbered 0 ps → AreLive (mark.Recalled v) ps (recalled_by base state day ps)
recalled_live base state day v ps h = live_by_number (is_recalled base state day) (mark.Recalled v) (λ p e. live_in_force p day (first_so (in_force day p) (fails base state p) e)) ps h

pub recalled_marked : (base : BaseLists) (state : InForce) (day : List ℕ) (v : ℕ) (ps : List Permit) → AreNumbered 0 ps → marked_all (mark.Recalled v) ps (recalled_by base state day ps) ≡ recalled_now base state day v ps
recalled_marked base state day v ps h = marked_by_number (is_recalled base state day) (mark.Recalled v) ps h
