-- That a pass is admitted keeps the rule.
use Rattle.std.proofs.Common.{◌≡◌, ℕ, ◌+◌, ◌≢◌, true, false, List, [], ◌∷◌, Option, length, set, sym, refl, ap, ◌∙◌, arith, length-set}
use Rattle.atomic_table.specs.Table.{State, Me, Splits}
use Rattle.atomic_table.proofs.Lists.{set_else, at_longer}
use Rattle.office_turn.specs.declared.view.View.{View}
use Rattle.office_turn.specs.Rule.{Turned, Moment, Fits}
use Rattle.office_turn.specs.Steps.{after_admitting, newcomer}
use Rattle.office_turn.proofs.Cases.{false_not_true, some_not_none}
use Rattle.office_turn.proofs.Places.{one_at, within}
use Rattle.office_turn.proofs.Seats.{seats_stay, seats_more, tickets_stay, tickets_more, numbers_stay, numbers_more}

module _ {V E T : Type 0} (caller : E → ℕ) (story : V → List E) (terms : V → T) (first : T) (most : ℕ) where
  abbrev Known : Type 0
  Known = View E T

  abbrev Whole : Type 0
  Whole = State (Option V) Known

  abbrev Mine : Type 0
  Mine = Me (Option V) Known

  abbrev Rule : Whole → Type 0
  Rule = Turned caller story terms first most

  -- the moment after a pass is admitted
  abbrev admitted_moment : Moment E T → Moment E T
  admitted_moment m = record m { admitted = m.admitted + 1 }

  pub admits : (id : ℕ) (v : Known) → v.is_spent ≡ false → v.is_root ≡ true → Splits Rule id v (after_admitting v) (newcomer v)
  admits id v live root s r at = let w : Known = after_admitting v in let c : Known = newcomer v in let vs : List Known = set s.views id w in let near = within s.views id v at in let f = r.fits id v at live in
      let is_root = f.root root in let after : Moment E T = admitted_moment r.moment in
      let place : length vs ≡ v.admitted + 1 = length-set s.views id w ∙ (r.numbers.places ∙ ap (λ (k : ℕ). k + 1) (sym is_root.2)) in record {
        moment = after;
        bells = r.bells;
        words = r.words;
        slots = r.slots;
        terms_are = r.terms_are;
        most_is = r.most_is;
        bounded = r.bounded;
        tickets = tickets_more _ _ vs c refl (tickets_stay _ _ s.views id v w at refl r.tickets);
        count = r.count;
        at_home = r.at_home;
        out = λ away. let o = r.out away in let g = r.fits o.0 o.1 o.2 o.4 in let ne : o.0 ≢ id = λ e. let same = one_at s.views id o.0 v o.1 at o.2 (sym e) in
            some_not_none r.moment.serving (sym (g.looked o.3).0 ∙ (ap (λ (y : Known). y.ticket) (sym same) ∙ is_root.1)) in
            (o.0, o.1, at_longer vs (c ∷ []) o.0 o.1 (set_else s.views id o.0 w ne ∙ o.2), o.3, o.4);
        fits = seats_more (λ j u. u.is_spent ≡ false → Fits caller after j u) vs c
            (λ _. record {
              terms = f.terms;
              most = f.most;
              seen = f.seen;
              passed_over = (r.moment.history, refl);
              root = λ e. absurd (false_not_true e);
              number = λ _. place;
              own = λ _. sym (r.unheard v.admitted (omega (arith, is_root.2)));
              looked = λ e. absurd (false_not_true e);
              worn = λ e. absurd (false_not_true e);
            })
            (seats_stay (λ j u. u.is_spent ≡ false → Fits caller after j u) s.views id w
            (λ _. record { terms = f.terms; most = f.most; seen = f.seen; passed_over = f.passed_over; root = λ _. (is_root.0, is_root.1, ap (λ (k : ℕ). k + 1) is_root.2, is_root.3); number = f.number; own = f.own; looked = f.looked; worn = f.worn })
            (λ j u other there live. let g = r.fits j u there live in record { terms = g.terms; most = g.most; seen = g.seen; passed_over = g.passed_over; root = λ e. absurd (other ((g.root e).0 ∙ sym is_root.0)); number = g.number; own = g.own; looked = g.looked; worn = g.worn }));
        receipts = λ i y there. let g = r.receipts i y there in record { number = omega (arith, g.number); own = g.own; worn = g.worn };
        unheard = λ k far. r.unheard k (omega arith);
        numbers = numbers_more _ _ vs c refl (numbers_stay _ _ s.views id v w at live live r.numbers);
      }
