-- That a turn is passed on keeps the rule.
use Rattle.std.proofs.Common.{◌≡◌, ℕ, ◌+◌, ◌<◌, ◌≤◌, ◌≢◌, true, false, List, [], ◌∷◌, ◌++◌, Option, Some, length, get_or, append-nil, drop, length-append, mod-eq_of_lt, ◌%◌, ◌^◌, set, sym, refl, true≢false, ap, ◌∙◌, subst, arith, length-set}
use mathlib.Core.Option.{none, some}
use mathlib.Core.Logic.{dite}
use native.Mathlib.Decide.{ℕ_discrete}
use lib.ListN.{get_elem?}
use Rattle.atomic_table.specs.Table.{State, Me, step, gives, Allows}
use Rattle.atomic_table.proofs.Lists.{set_here}
use Rattle.office_turn.specs.declared.view.View.{View}
use Rattle.office_turn.specs.Rule.{Turned, Moment, Fits}
use Rattle.office_turn.specs.Story.{entries_of}
use Rattle.office_turn.specs.Steps.{after_passing, passed}
use Rattle.office_turn.proofs.Cases.{false_not_true, some_same, some_not_none}
use Rattle.office_turn.proofs.Places.{one_at, within}
use Rattle.office_turn.proofs.Seats.{seats_stay, still_has, still_once, numbers_stay}
use Rattle.office_turn.proofs.Unmoved.{serving, serving_is}
use Rattle.std.proofs.Math.Seq.{drop-append_seam}
use Rattle.office_turn.proofs.Entries.{entries_more, entries_same}
use Rattle.office_turn.proofs.Fronts.{longer_starts}

module _ {V E T : Type 0} (caller : E → ℕ) (story : V → List E) (terms : V → T) (first : T) (most : ℕ) where
  abbrev Known : Type 0
  Known = View E T

  abbrev Whole : Type 0
  Whole = State (Option V) Known

  abbrev Mine : Type 0
  Mine = Me (Option V) Known

  abbrev Rule : Whole → Type 0
  Rule = Turned caller story terms first most

  -- the moment after a turn is passed on
  abbrev passed_moment : Moment E T → E → Moment E T
  passed_moment m e = record m { serving = m.serving + 1; history = m.history ++ e ∷ []; home = true }

  gives_back : (s : Whole) (r : Rule s) (me : ℕ) (v : Known) (x : V) (e : E) → get_elem? s.views me ≡ some v → v.is_spent ≡ false → v.is_root ≡ false → v.looked ≡ true
      → story x ≡ v.seen ++ e ∷ [] → caller e ≡ v.number → terms x ≡ first
      → Rule record { words = r.moment.next ∷ (r.moment.serving + 1) ∷ r.bells; homes = set s.homes 0 (some (Some x)); views = set s.views me (after_passing v (v.seen ++ e ∷ [])) }
  gives_back s r me v x e at live pass has_looked tells its same_terms = let near = within s.views me v at in let f = r.fits me v at live in
      let now = f.looked has_looked in let mine = now.0 in let all = now.1 in let n : ℕ = r.moment.serving in let range = r.tickets.drawn me v n at mine in let history : List E = r.moment.history in
      let after : Moment E T = passed_moment r.moment e in
      let w : Known = after_passing v (v.seen ++ e ∷ []) in let own_more : v.own ++ drop (length v.seen) (v.seen ++ e ∷ []) ≡ v.own ++ e ∷ [] = ap (λ l. v.own ++ l) (drop-append_seam v.seen (e ∷ [])) in let longer : history ++ e ∷ [] ≡ v.seen ++ e ∷ [] = ap (λ l. l ++ e ∷ []) (sym all) in
      let others : (j : ℕ) (u : Known) → j ≢ me → get_elem? s.views j ≡ some u → u.ticket ≡ Some n → ⊥ = λ j u other there b. other (r.tickets.once j me u v n there at b mine) in record {
        moment = after;
        bells = r.bells;
        words = refl;
        slots = length-set s.homes 0 (some (Some x)) ∙ r.slots;
        terms_are = r.terms_are;
        most_is = r.most_is;
        bounded = r.bounded;
        tickets = record {
          ordered = omega (arith, range.1);
          drawn = λ j u k. seats_stay (λ j u. u.ticket ≡ Some k → (n + 1 ≤ k) × (k < r.moment.next)) s.views me w
              (λ a. absurd (some_not_none k (sym a)))
              (λ j u other there a. let d = r.tickets.drawn j u k there a in (dite (ℕ_discrete k n) (λ is. absurd (others j u other there (a ∙ ap (λ (y : ℕ). Some y) is))) (λ ne. omega (arith, d.0)), d.1)) j u;
          once = still_once s.views me w r.tickets.once (λ j u k other there a b. some_not_none k (sym a));
          waiting = λ k low high. still_has s.views me v w k at (λ a. let is : n ≡ k = some_same n k (sym mine ∙ a) in absurd (omega arith)) near (r.tickets.waiting k (omega arith) high);
        };
        count = length-append history (e ∷ []) ∙ ap (λ (k : ℕ). k + 1) r.count;
        at_home = λ _. (x, set_here s.homes 0 (some (Some x)) (omega (arith, r.slots)), same_terms, tells ∙ sym longer);
        out = λ away. absurd (true≢false away);
        fits = seats_stay (λ j u. u.is_spent ≡ false → Fits caller after j u) s.views me w
            (λ _. record {
              terms = f.terms;
              most = f.most;
              seen = ([], longer ∙ sym (append-nil (v.seen ++ e ∷ [])));
              passed_over = longer_starts history v.passed_over e f.passed_over;
              root = λ e. absurd (false_not_true (sym pass ∙ e));
              number = f.number;
              own = λ p. own_more ∙ (ap (λ l. l ++ e ∷ []) (f.own p) ∙ sym (entries_more caller v.number history e its));
              looked = λ e. absurd (false_not_true e);
              worn = f.worn;
            })
            (λ j u other there live. let g = r.fits j u there live in record {
              terms = g.terms;
              most = g.most;
              seen = longer_starts history u.seen e g.seen;
              passed_over = longer_starts history u.passed_over e g.passed_over;
              root = g.root;
              number = g.number;
              own = λ p. g.own p ∙ sym (entries_same caller u.number history e (λ is. other (omega (arith, g.number p, f.number pass, is, its))));
              looked = λ a. absurd (others j u other there (g.looked a).0);
              worn = g.worn;
            });
        receipts = λ i y there. let g = r.receipts i y there in let away = r.numbers.gone i y there in record {
          number = g.number;
          own = g.own ∙ sym (entries_same caller y.number history e (λ is. let here : me ≡ y.number + 1 = omega (arith, f.number pass, is, its) in
              false_not_true (sym live ∙ (ap (λ (z : Known). z.is_spent) (one_at s.views me (y.number + 1) v away.0 at away.1 here) ∙ away.2))));
          worn = g.worn;
        };
        unheard = λ k far. entries_same caller k history e (λ is. absurd (omega (arith, f.number pass, r.numbers.places, near, is, its))) ∙ r.unheard k far;
        numbers = numbers_stay _ _ s.views me v w at live live r.numbers;
      }

  pub passes : (slots id : ℕ) (v : Known) (more : List (ℕ × Option V)) (x : V) (e : E) → v.most < 2 ^ 32 → v.is_spent ≡ false → v.is_root ≡ false → v.looked ≡ true
      → story x ≡ v.seen ++ e ∷ [] → caller e ≡ v.number → Some (terms x) ≡ v.terms
      → Allows Rule slots id (v, (0, Some x) ∷ more) 1 (λ n. (n + 1) % 2 ^ 64) (passed caller story (step slots 1 1 0 none) (v, (0, Some x) ∷ more))
  passes slots id v more x e small live pass has_looked tells its same s r _ at _ = let f = r.fits id v at live in let now = serving_is caller story terms first most s r in let mine = (f.looked has_looked).0 in
      let range = r.tickets.drawn id v r.moment.serving at mine in let same_terms : terms x ≡ first = some_same (terms x) r.moment.terms (same ∙ f.terms) ∙ r.terms_are in
      let up : ((serving caller story terms first most s) + 1) % 2 ^ 64 ≡ r.moment.serving + 1 = ap (λ (n : ℕ). (n + 1) % 2 ^ 64) now ∙ mod-eq_of_lt (omega (arith, range.1, r.bounded, small, f.most, r.most_is)) in
      let ws : set s.words 1 (((serving caller story terms first most s) + 1) % 2 ^ 64) ≡ r.moment.next ∷ (r.moment.serving + 1) ∷ r.bells = ap (λ l. set l 1 (((serving caller story terms first most s) + 1) % 2 ^ 64)) r.words ∙ ap (λ (k : ℕ). r.moment.next ∷ k ∷ r.bells) up in
      let own_now : entries_of caller v.number (story x) ≡ v.own ++ drop (length v.seen) (story x) = ap (entries_of caller v.number) tells
      ∙ (entries_more caller v.number v.seen e its ∙ (ap (λ l. l ++ e ∷ []) (ap (entries_of caller v.number) (f.looked has_looked).1 ∙ sym (f.own pass)) ∙ sym (ap (λ l. v.own ++ l) (ap (drop (length v.seen)) tells ∙ drop-append_seam v.seen (e ∷ []))))) in (
        after_passing v (story x),
        gives,
        tt,
        subst (λ (y : List ℕ × List E). Rule record { words = y.0; homes = set s.homes 0 (some (Some x)); views = set s.views id (after_passing v y.1) }) (λ i. (sym ws i, sym tells i))
            (gives_back s r id v x e at live pass has_looked tells its same_terms),
        λ y here. let same_value : x ≡ y = some_same x y (ap (λ (l : List (ℕ × Option V)). (get_or l 0 (0, Some x)).1) here) in
            (omega (arith, now, range.1, r.bounded, f.most, r.most_is), ap (λ (z : V). (after_passing v (story z), more)) same_value, subst (λ (z : V). entries_of caller v.number (story z) ≡ v.own ++ drop (length v.seen) (story z)) same_value own_now),
      )

  pub passes_at : (slots id : ℕ) (m : Mine) (v : Known) (more : List (ℕ × Option V)) (x : V) (e : E) → m ≡ (v, (0, Some x) ∷ more) → v.most < 2 ^ 32 → v.is_spent ≡ false → v.is_root ≡ false → v.looked ≡ true
      → story x ≡ v.seen ++ e ∷ [] → caller e ≡ v.number → Some (terms x) ≡ v.terms
      → Allows Rule slots id m 1 (λ n. (n + 1) % 2 ^ 64) (passed caller story (step slots 1 1 0 none) m)
  passes_at slots id m v more x e is small live pass has_looked tells its same =
      subst (λ (y : Mine). Allows Rule slots id y 1 (λ n. (n + 1) % 2 ^ 64) (passed caller story (step slots 1 1 0 none) y)) (sym is) (passes slots id v more x e small live pass has_looked tells its same)
