-- That a pass is joined keeps the rule.
use Rattle.std.proofs.Common.{◌≡◌, ℕ, ◌+◌, ◌<◌, ◌≢◌, true, false, List, [], ◌∷◌, ◌++◌, Option, None, length, length-append, set, sym, refl, true≢false, ap, ◌∙◌, subst, ⊎_elim, arith, length-set}
use mathlib.Core.Option.{none, some}
use lib.ListN.{get_elem?}
use Rattle.atomic_table.specs.Table.{State, Me, step, keeps, Allows, Joins}
use Rattle.atomic_table.proofs.Lists.{set_here, set_else, at_longer, at_last}
use Rattle.office_turn.specs.declared.view.View.{View}
use Rattle.office_turn.specs.declared.view.Receipt.{Receipt}
use Rattle.office_turn.specs.Rule.{Turned, Moment, Fits, FitsReceipt, IsBlank, one_if}
use Rattle.office_turn.specs.Story.{StartsWith}
use Rattle.office_turn.specs.Steps.{receipt_of, after_receiving, spent, tallied}
use Rattle.office_turn.proofs.Cases.{false_not_true, some_not_none}
use Rattle.office_turn.proofs.Places.{one_at, at_end, within}
use Rattle.office_turn.proofs.Seats.{seats_stay, still_gone, tickets_stay, tally-set, same_tally, spent-lt}
use Rattle.office_turn.proofs.Unmoved.{unmoved}
use Rattle.office_turn.proofs.Fronts.{longer_keeps, shorter_keeps, front_of_front}

module _ {V E T : Type 0} (caller : E → ℕ) (story : V → List E) (terms : V → T) (first : T) (most : ℕ) where
  abbrev Known : Type 0
  Known = View E T

  abbrev Whole : Type 0
  Whole = State (Option V) Known

  abbrev Mine : Type 0
  Mine = Me (Option V) Known

  abbrev Rule : Whole → Type 0
  Rule = Turned caller story terms first most

  -- the moment after a pass is taken in
  abbrev joined_moment : Moment E T → Receipt E → Moment E T
  joined_moment m y = record m { receipts = m.receipts ++ y ∷ [] }

  pub joins : (id : ℕ) (v : Known) (other : ℕ) (p : Known) → v.is_spent ≡ false → v.is_root ≡ true → p.is_spent ≡ false → p.is_root ≡ false → p.ticket ≡ None → p.looked ≡ false
      → Joins Rule id v other p (after_receiving v p) spent
  joins id v other p live root p_live p_pass no_ticket unlooked s r at apart there = let w : Known = after_receiving v p in let b : Known = spent in let vs : List Known = set s.views id w in let near = within s.views id v at in
      let p_at : get_elem? s.views other ≡ some p = sym (set_else s.views id other w apart) ∙ there in let p_near = within s.views other p p_at in
      let f = r.fits id v at live in let g = r.fits other p p_at p_live in let is_root = f.root root in let y : Receipt E = receipt_of p in let after : Moment E T = joined_moment r.moment y in
      let p_far : other < length vs = omega (arith, p_near, length-set s.views id w) in
      let two : (P : ℕ → Known → Type 0) → P id w → P other b → ((j : ℕ) (d : Known) → j ≢ id → j ≢ other → get_elem? s.views j ≡ some d → P j d) → (j : ℕ) (d : Known) → get_elem? (set vs other b) j ≡ some d → P j d =
      λ P mine theirs others. seats_stay P vs other b theirs (λ j d far e. seats_stay (λ j d. j ≢ other → P j d) s.views id w (λ _. mine) (λ j d near e far. others j d near far e) j d e far) in record {
        moment = after;
        bells = r.bells;
        words = r.words;
        slots = r.slots;
        terms_are = r.terms_are;
        most_is = r.most_is;
        bounded = r.bounded;
        tickets = tickets_stay _ _ vs other p b there no_ticket (tickets_stay _ _ s.views id v w at refl r.tickets);
        count = r.count;
        at_home = r.at_home;
        out = λ away. let o = r.out away in let h = r.fits o.0 o.1 o.2 o.4 in
            let ne : o.0 ≢ id = λ e. some_not_none r.moment.serving (sym (h.looked o.3).0 ∙ (ap (λ (z : Known). z.ticket) (sym (one_at s.views id o.0 v o.1 at o.2 (sym e))) ∙ is_root.1)) in
            let ne₂ : o.0 ≢ other = λ e. some_not_none r.moment.serving (sym (h.looked o.3).0 ∙ (ap (λ (z : Known). z.ticket) (sym (one_at s.views other o.0 p o.1 p_at o.2 (sym e))) ∙ no_ticket)) in
            (o.0, o.1, set_else vs other o.0 b ne₂ ∙ (set_else s.views id o.0 w ne ∙ o.2), o.3, o.4);
        fits = two (λ j u. u.is_spent ≡ false → Fits caller after j u)
            (λ _. record {
              terms = f.terms;
              most = f.most;
              seen = longer_keeps (StartsWith r.moment.history) v.seen p.seen f.seen g.seen;
              passed_over = shorter_keeps (StartsWith r.moment.history) v.seen p.seen f.seen g.seen;
              root = λ _. (is_root.0, is_root.1, is_root.2, ap (λ l. l ++ y ∷ []) is_root.3);
              number = f.number;
              own = f.own;
              looked = λ e. absurd (some_not_none r.moment.serving (sym (f.looked e).0 ∙ is_root.1));
              worn = f.worn;
            })
            (λ e. absurd (true≢false e))
            (λ j u far _ at live. let h = r.fits j u at live in record { terms = h.terms; most = h.most; seen = h.seen; passed_over = h.passed_over; root = λ e. absurd (far ((h.root e).0 ∙ sym is_root.0)); number = h.number; own = h.own; looked = h.looked; worn = h.worn });
        receipts = λ i z here. ⊎_elim (λ (t : get_elem? r.moment.receipts i ≡ some z). let h = r.receipts i z t in record { number = h.number; own = h.own; worn = h.worn })
            (λ (t : (i ≡ length r.moment.receipts) × (y ≡ z)). subst (FitsReceipt caller after) t.1 (record { number = omega (arith, g.number p_pass, r.numbers.places, p_near); own = g.own p_pass; worn = g.worn })) (at_end r.moment.receipts y z i here);
        unheard = r.unheard;
        numbers = record {
          places = length-set vs other b ∙ (length-set s.views id w ∙ r.numbers.places);
          blank = two (λ j u. u.is_spent ≡ true → IsBlank u) (λ e. absurd (false_not_true (sym live ∙ e))) (λ _. (refl, refl)) (λ j u _ _. r.numbers.blank j u);
          gone = λ i z here. ⊎_elim
              (λ (t : get_elem? r.moment.receipts i ≡ some z). still_gone vs other p b r.moment.receipts there p_live (still_gone s.views id v w r.moment.receipts at live r.numbers.gone) i z t)
              (λ (t : (i ≡ length r.moment.receipts) × (y ≡ z)). (b, subst (λ (x : ℕ). get_elem? (set vs other b) x ≡ some b) (g.number p_pass ∙ ap (λ (x : Receipt E). x.number + 1) t.1) (set_here vs other b p_far), refl))
              (at_end r.moment.receipts y z i here);
          heard = two (λ j u. u.is_spent ≡ true → (i : ℕ) × (z : Receipt E) × (get_elem? (r.moment.receipts ++ y ∷ []) i ≡ some z) × (j ≡ z.number + 1)) (λ e. absurd (false_not_true (sym live ∙ e)))
              (λ _. (length r.moment.receipts, y, at_last r.moment.receipts y (length r.moment.receipts) refl, g.number p_pass))
              (λ j u _ _ at e. let h = r.numbers.heard j u at e in (h.0, h.1, at_longer r.moment.receipts (y ∷ []) h.0 h.1 h.2, h.3));
          tally = let one : one_if p.is_spent ≡ 0 = ap one_if p_live in
              omega (arith, length-append r.moment.receipts (y ∷ []), r.numbers.tally, tally-set vs other p b there, same_tally s.views id v w at live live, one);
        };
      }

  pub tallies : (slots id i : ℕ) (m : Mine) → m.0.is_spent ≡ false → m.0.is_root ≡ true → Allows Rule slots id m i (λ x. x) (tallied (step slots i 0 0 none) m)
  tallies slots id i m live root s r _ at _ = let f = r.fits id m.0 at live in let is_root = f.root root in
      (m.0, keeps, tt, unmoved caller story terms first most s i id m.0 m.1 at r, (refl, omega (arith, spent-lt s.views id m.0 at live, r.numbers.places, r.numbers.tally, ap {B = ℕ} length is_root.3, is_root.2), front_of_front r.moment.history m.0.seen m.0.passed_over f.seen f.passed_over))
