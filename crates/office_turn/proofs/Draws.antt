-- A draw keeps the rule.
use Rattle.std.proofs.Common.{◌≡◌, ℕ, ◌+◌, ◌<◌, ◌≤◌, eqb, Bool, true, false, List, ◌∷◌, Option, Some, None, set, sym, refl, ap, ◌∙◌, subst, arith, eq-eqb, ne_eqb}
use mathlib.Core.Option.{some}
use mathlib.Core.Logic.{dite}
use native.Mathlib.Decide.{ℕ_discrete}
use lib.ListN.{get_elem?}
use Rattle.atomic_table.specs.Table.{State, Me, step, keeps, stepped, Allows}
use Rattle.atomic_table.proofs.Lists.{set_here, set_else}
use Rattle.office_turn.specs.declared.view.View.{View}
use Rattle.office_turn.specs.Rule.{Turned, Moment, Fits}
use Rattle.office_turn.specs.Steps.{with_ticket, drew}
use Rattle.office_turn.proofs.Cases.{false_not_true, some_same, some_not_none}
use Rattle.office_turn.proofs.Places.{one_at, within}
use Rattle.office_turn.proofs.Seats.{seats_stay, still_has, still_once, numbers_stay}
use Rattle.office_turn.proofs.Unmoved.{next, next_is, unmoved}
use prog.Atomic.{either}

module _ {V E T : Type 0} (caller : E → ℕ) (story : V → List E) (terms : V → T) (first : T) (most : ℕ) where
  abbrev Known : Type 0
  Known = View E T

  abbrev Whole : Type 0
  Whole = State (Option V) Known

  abbrev Mine : Type 0
  Mine = Me (Option V) Known

  abbrev Rule : Whole → Type 0
  Rule = Turned caller story terms first most

  -- the moment after a draw
  abbrev drawn_moment : Moment E T → Moment E T
  drawn_moment m = record m { next = m.next + 1 }

  no_more : {A : Type 0} (n : ℕ) (worn : Bool) → (worn ≡ true → n ≡ most) → n < most → worn ≡ true → A
  no_more n worn full less e = absurd (omega (arith, full e))

  draws_next : (s : Whole) (r : Rule s) (me : ℕ) (v : Known) → get_elem? s.views me ≡ some v → v.is_spent ≡ false → v.is_root ≡ false → v.ticket ≡ None → r.moment.next < most
      → Rule record { words = (r.moment.next + 1) ∷ r.moment.serving ∷ r.bells; homes = s.homes; views = set s.views me (with_ticket v r.moment.next) }
  draws_next s r me v at live pass none_yet room = let n : ℕ = r.moment.next in let w : Known = with_ticket v n in let near = within s.views me v at in let f = r.fits me v at live in
      let low : r.moment.serving ≤ n = r.tickets.ordered in record {
        moment = drawn_moment r.moment;
        bells = r.bells;
        words = refl;
        slots = r.slots;
        terms_are = r.terms_are;
        most_is = r.most_is;
        bounded = omega arith;
        tickets = record {
          ordered = omega arith;
          drawn = λ j u k. seats_stay (λ j u. u.ticket ≡ Some k → (r.moment.serving ≤ k) × (k < n + 1)) s.views me w
              (λ e. let is : n ≡ k = some_same n k e in (omega arith, omega arith)) (λ j u _ there e. let d = r.tickets.drawn j u k there e in (d.0, omega (arith, d.1))) j u;
          once = still_once s.views me w r.tickets.once (λ j u k other there a b. let is : n ≡ k = some_same n k a in absurd (omega (arith, (r.tickets.drawn j u k there b).1)));
          waiting = λ k low high. dite (ℕ_discrete k n)
              (λ e. (me, w, set_here s.views me w near, ap (λ (x : ℕ). Some x) (sym e)))
              (λ ne. still_has s.views me v w k at (λ e. absurd (some_not_none k (sym e ∙ none_yet))) near (r.tickets.waiting k low (omega arith)));
        };
        count = r.count;
        at_home = r.at_home;
        out = λ away. let o = r.out away in dite (ℕ_discrete o.0 me)
            (λ e. let same = one_at s.views me o.0 v o.1 at o.2 (sym e) in absurd (some_not_none r.moment.serving (sym (f.looked (ap (λ (x : Known). x.looked) same ∙ o.3)).0 ∙ none_yet)))
            (λ ne. (o.0, o.1, set_else s.views me o.0 w ne ∙ o.2, o.3, o.4));
        fits = seats_stay (λ j u. u.is_spent ≡ false → Fits caller (drawn_moment r.moment) j u) s.views me w
            (λ _. record {
              terms = f.terms;
              most = f.most;
              seen = f.seen;
              passed_over = f.passed_over;
              root = λ e. absurd (false_not_true (sym pass ∙ e));
              number = f.number;
              own = f.own;
              looked = λ e. absurd (some_not_none r.moment.serving (sym (f.looked e).0 ∙ none_yet));
              worn = no_more n v.worn (λ e. f.worn e ∙ r.most_is) room;
            })
            (λ j u _ there live. let g = r.fits j u there live in record { terms = g.terms; most = g.most; seen = g.seen; passed_over = g.passed_over; root = g.root; number = g.number; own = g.own; looked = g.looked; worn = no_more n u.worn (λ e. g.worn e ∙ r.most_is) room });
        receipts = λ i x there. let g = r.receipts i x there in record { number = g.number; own = g.own; worn = no_more n x.worn (λ e. g.worn e ∙ r.most_is) room };
        unheard = r.unheard;
        numbers = numbers_stay _ _ s.views me v w at live live r.numbers;
      }

  pub draws : (slots id : ℕ) (m : Mine) (old new : ℕ) (said : mathlib.Core.Option.Option (Option V)) → m.0.is_spent ≡ false → m.0.is_root ≡ false → m.0.ticket ≡ None → old < m.0.most → new ≡ old + 1
      → Allows Rule slots id m 0 (λ x. either (eqb x old) new x) (drew (step slots 0 old new said) m)
  draws slots id m old new said live pass none_yet room up s r _ at _ = let f = r.fits id m.0 at live in let x : ℕ = (next caller story terms first most s) in let now = next_is caller story terms first most s r in
      let w : Known = with_ticket m.0 x in
      dite (ℕ_discrete x old)
      (λ hit. (
        w,
        keeps,
        tt,
        subst (λ b. Rule (stepped s 0 (either b new x) id m.1 w keeps)) (sym (eq-eqb x old hit))
            (let ws : set s.words 0 new ≡ (r.moment.next + 1) ∷ r.moment.serving ∷ r.bells = ap (λ l. set l 0 new) r.words ∙ ap (λ (k : ℕ). k ∷ r.moment.serving ∷ r.bells) (omega (arith, now, hit, up)) in
            subst (λ (y : List ℕ × ℕ). Rule record { words = y.0; homes = s.homes; views = set s.views id (with_ticket m.0 y.1) }) (λ i. (sym ws i, sym now i))
            (draws_next s r id m.0 at live pass none_yet (omega (arith, now, hit, f.most, r.most_is)))),
        ((λ _. refl), λ miss. absurd (miss hit)),
      ))
      (λ miss. (
        m.0,
        keeps,
        tt,
        subst (λ b. Rule (stepped s 0 (either b new x) id m.1 m.0 keeps)) (sym (ne_eqb x old miss)) (unmoved caller story terms first most s 0 id m.0 m.1 at r),
        ((λ hit. absurd (miss hit)), λ _. refl),
      ))
