-- A look at the ticket now served keeps the rule, and takes the slot where that is the seat's own.
use Rattle.std.proofs.Common.{◌≡◌, ℕ, true, false, List, [], Option, Some, length, append-nil, set, sym, refl, ap, ◌∙◌, subst, arith, length-set}
use mathlib.Core.Option.{none, some}
use mathlib.Core.Logic.{dite}
use native.Mathlib.Decide.{ℕ_discrete}
use lib.ListN.{get_elem?}
use Rattle.atomic_table.specs.Table.{State, Me, step, keeps, takes, Allows}
use Rattle.atomic_table.proofs.Lists.{set_here}
use Rattle.office_turn.specs.declared.view.View.{View}
use Rattle.office_turn.specs.Rule.{Turned, Moment, Fits}
use Rattle.office_turn.specs.Story.{entries_of}
use Rattle.office_turn.specs.Steps.{with_story, looked}
use Rattle.office_turn.proofs.Cases.{false_not_true, bool_cases, some_same, some_not_none}
use Rattle.office_turn.proofs.Places.{one_at, within}
use Rattle.office_turn.proofs.Seats.{seats_stay, tickets_stay, numbers_stay}
use Rattle.office_turn.proofs.Unmoved.{serving, serving_is, unmoved}
use lib.Seq.{set-get_or}

module _ {V E T : Type 0} (caller : E → ℕ) (story : V → List E) (terms : V → T) (first : T) (most : ℕ) where
  abbrev Known : Type 0
  Known = View E T

  abbrev Whole : Type 0
  Whole = State (Option V) Known

  abbrev Mine : Type 0
  Mine = Me (Option V) Known

  abbrev Rule : Whole → Type 0
  Rule = Turned caller story terms first most

  -- the moment after the slot is taken
  abbrev away_moment : Moment E T → Moment E T
  away_moment m = record m { home = false }

  -- where the seat has the served ticket and has not looked, the value is at home
  is_home : (s : Whole) (r : Rule s) (me : ℕ) (v : Known) → get_elem? s.views me ≡ some v → v.ticket ≡ Some r.moment.serving → v.looked ≡ false → r.moment.home ≡ true
  is_home s r me v at mine unlooked = bool_cases r.moment.home (λ e. e) (λ away. let o = r.out away in let g = r.fits o.0 o.1 o.2 o.4 in
      let same = one_at s.views me o.0 v o.1 at o.2 (r.tickets.once me o.0 v o.1 r.moment.serving at o.2 mine (g.looked o.3).0) in
      absurd (false_not_true (sym unlooked ∙ (ap (λ (y : Known). y.looked) same ∙ o.3))))

  takes_home : (s : Whole) (r : Rule s) (me : ℕ) (v : Known) → get_elem? s.views me ≡ some v → v.is_spent ≡ false → v.ticket ≡ Some r.moment.serving → v.looked ≡ false
      → (x : V) → story x ≡ r.moment.history → r.moment.home ≡ true
      → Rule record { words = s.words; homes = set s.homes 0 none; views = set s.views me (with_story v (story x)) }
  takes_home s r me v at live mine unlooked x tells home = let w : Known = with_story v (story x) in let near = within s.views me v at in let f = r.fits me v at live in record {
    moment = away_moment r.moment;
    bells = r.bells;
    words = r.words;
    slots = length-set s.homes 0 none ∙ r.slots;
    terms_are = r.terms_are;
    most_is = r.most_is;
    bounded = r.bounded;
    tickets = tickets_stay _ _ s.views me v w at refl r.tickets;
    count = r.count;
    at_home = λ e. absurd (false_not_true e);
    out = λ _. (me, w, set_here s.views me w near, refl, live);
    fits = seats_stay (λ j u. u.is_spent ≡ false → Fits caller (away_moment r.moment) j u) s.views me w
        (λ _. record { terms = f.terms; most = f.most; seen = ([], sym tells ∙ sym (append-nil (story x))); passed_over = f.passed_over; root = λ e. absurd (some_not_none r.moment.serving (sym mine ∙ (f.root e).1)); number = f.number; own = f.own; looked = λ _. (mine, tells, refl); worn = f.worn })
        (λ j u _ there live. let g = r.fits j u there live in record { terms = g.terms; most = g.most; seen = g.seen; passed_over = g.passed_over; root = g.root; number = g.number; own = g.own; looked = λ e. absurd (false_not_true (sym (g.looked e).2 ∙ home)); worn = g.worn });
    receipts = λ i y there. let g = r.receipts i y there in record { number = g.number; own = g.own; worn = g.worn };
    unheard = r.unheard;
    numbers = numbers_stay _ _ s.views me v w at live live r.numbers;
  }

  pub looks : (slots id : ℕ) (m : Mine) (k : ℕ) → m.0.is_spent ≡ false → m.0.is_root ≡ false → m.0.ticket ≡ Some k → m.0.looked ≡ false
      → Allows Rule slots id m 1 (λ x. x) (looked caller story terms (step slots 1 0 0 none) m)
  looks slots id m k live pass mine unlooked s r _ at _ = let f = r.fits id m.0 at live in let now = serving_is caller story terms first most s r in
      dite (ℕ_discrete ((serving caller story terms first most s)) k)
      (λ hit. let here : m.0.ticket ≡ Some r.moment.serving = mine ∙ ap (λ (y : ℕ). Some y) (sym hit ∙ now) in let home = is_home s r id m.0 at here unlooked in let t = r.at_home home in let x : V = t.0 in
      let range = r.tickets.drawn id m.0 k at mine in (
        with_story m.0 (story x),
        takes 0 (Some x),
        t.1,
        subst (λ ws. Rule record { words = ws; homes = set s.homes 0 none; views = set s.views id (with_story m.0 (story x)) }) (sym (set-get_or s.words 1 0)) (takes_home s r id m.0 at live here unlooked x t.3 home),
        λ k' mine'. let is : k ≡ k' = some_same k k' (sym mine ∙ mine') in (
          (λ _. (
            x,
            refl,
            record {
              extends = (f.seen.0, t.3 ∙ f.seen.1);
              served = ap length t.3 ∙ (r.count ∙ (sym now ∙ (hit ∙ is)));
              room = omega (arith, range.1, r.bounded, f.most, r.most_is);
              own = ap (entries_of caller m.0.number) t.3 ∙ sym (f.own pass);
              terms_stay = ap (λ (y : T). Some y) (t.2 ∙ sym r.terms_are) ∙ sym f.terms;
            },
          )),
          λ miss. absurd (miss (hit ∙ is)),
        ),
      ))
      (λ miss. (
        m.0,
        keeps,
        tt,
        unmoved caller story terms first most s 1 id m.0 m.1 at r,
        λ k' mine'. let is : k ≡ k' = some_same k k' (sym mine ∙ mine') in ((λ hit. absurd (miss (hit ∙ sym is))), λ other. (omega (arith, (r.tickets.drawn id m.0 k at mine).0, now, other, is), refl)),
      ))
