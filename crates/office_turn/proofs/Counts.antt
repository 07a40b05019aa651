-- A look at the next ticket keeps the rule.
use Rattle.std.proofs.Common.{◌≡◌, ℕ, false, List, Option, set, sym, refl, ap, ◌∙◌, subst, arith}
use mathlib.Core.Option.{none, some}
use mathlib.Core.Logic.{dite}
use native.Mathlib.Decide.{ℕ_discrete}
use lib.ListN.{get_elem?}
use Rattle.atomic_table.specs.Table.{State, Me, step, keeps, Allows}
use Rattle.atomic_table.proofs.Lists.{set_here, set_else}
use Rattle.office_turn.specs.declared.view.View.{View}
use Rattle.office_turn.specs.Rule.{Turned, Fits}
use Rattle.office_turn.specs.Steps.{with_worn, marked_worn}
use Rattle.office_turn.proofs.Cases.{bool_cases}
use Rattle.office_turn.proofs.Places.{one_at, within}
use Rattle.office_turn.proofs.Seats.{seats_stay, tickets_stay, numbers_stay}
use Rattle.office_turn.proofs.Unmoved.{next, next_is, unmoved}
use lib.Seq.{set-get_or}

module _ {V E T : Type 0} (caller : E → ℕ) (story : V → List E) (terms : V → T) (first : T) (most : ℕ) where
  abbrev Known : Type 0
  Known = View E T

  abbrev Whole : Type 0
  Whole = State (Option V) Known

  abbrev Mine : Type 0
  Mine = Me (Option V) Known

  abbrev Rule : Whole → Type 0
  Rule = Turned caller story terms first most

  -- the seat is marked, where all tickets have been drawn
  marks : (s : Whole) (r : Rule s) (me : ℕ) (v : Known) → get_elem? s.views me ≡ some v → v.is_spent ≡ false → r.moment.next ≡ r.moment.most → Rule record { words = s.words; homes = s.homes; views = set s.views me (with_worn v) }
  marks s r me v at live full = let w : Known = with_worn v in let near = within s.views me v at in let f = r.fits me v at live in record {
    moment = r.moment;
    bells = r.bells;
    words = r.words;
    slots = r.slots;
    terms_are = r.terms_are;
    most_is = r.most_is;
    bounded = r.bounded;
    tickets = tickets_stay _ _ s.views me v w at refl r.tickets;
    count = r.count;
    at_home = r.at_home;
    out = λ away. let o = r.out away in dite (ℕ_discrete o.0 me)
        (λ e. let same = one_at s.views me o.0 v o.1 at o.2 (sym e) in (me, w, set_here s.views me w near, ap (λ (x : Known). x.looked) same ∙ o.3, live))
        (λ ne. (o.0, o.1, set_else s.views me o.0 w ne ∙ o.2, o.3, o.4));
    fits = seats_stay (λ j u. u.is_spent ≡ false → Fits caller r.moment j u) s.views me w
        (λ _. record { terms = f.terms; most = f.most; seen = f.seen; passed_over = f.passed_over; root = f.root; number = f.number; own = f.own; looked = f.looked; worn = λ _. full })
        (λ j u _. r.fits j u);
    receipts = r.receipts;
    unheard = r.unheard;
    numbers = numbers_stay _ _ s.views me v w at live live r.numbers;
  }

  pub counts : (slots id : ℕ) (m : Mine) → m.0.is_spent ≡ false → Allows Rule slots id m 0 (λ x. x) (marked_worn (step slots 0 0 0 none) m)
  counts slots id m live s r _ at _ = let f = r.fits id m.0 at live in let x : ℕ = (next caller story terms first most s) in let now = next_is caller story terms first most s r in let cap : m.0.most ≡ most = f.most ∙ r.most_is in dite (ℕ_discrete x m.0.most)
      (λ full. (
        with_worn m.0,
        keeps,
        tt,
        subst (λ ws. Rule record { words = ws; homes = s.homes; views = set s.views id (with_worn m.0) }) (sym (set-get_or s.words 0 0)) (marks s r id m.0 at live (omega (arith, now, full, f.most))),
        ((λ _. refl), λ not. absurd (not full)),
      ))
      (λ more. (m.0, keeps, tt, unmoved caller story terms first most s 0 id m.0 m.1 at r, ((λ full. absurd (more full)), λ _. (omega (arith, r.bounded, cap, now), bool_cases m.0.worn (λ marked. absurd (more (omega (arith, now, f.worn marked, f.most)))) (λ e. e), refl))))
