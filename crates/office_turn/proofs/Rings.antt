-- Whatever becomes of a word that sleepers use, the rule is kept.
use Rattle.std.proofs.Common.{ℕ, zero, suc, ◌≤◌, List, Option, get_or, set, sym, refl, ap, subst, arith}
use mathlib.Core.Option.{none}
use Rattle.atomic_table.specs.Table.{State, Me, step, keeps, Allows}
use Rattle.atomic_table.proofs.Lists.{set_again}
use Rattle.office_turn.specs.declared.view.View.{View}
use Rattle.office_turn.specs.Rule.{Turned}
use Rattle.office_turn.specs.Steps.{stayed}

module _ {V E T : Type 0} (caller : E → ℕ) (story : V → List E) (terms : V → T) (first : T) (most : ℕ) where
  abbrev Known : Type 0
  Known = View E T

  abbrev Whole : Type 0
  Whole = State (Option V) Known

  abbrev Mine : Type 0
  Mine = Me (Option V) Known

  abbrev Rule : Whole → Type 0
  Rule = Turned caller story terms first most

  -- whatever a word behind the first two becomes
  rung : (s : Whole) (r : Rule s) (i n : ℕ) → 2 ≤ i → Rule record { words = set s.words i n; homes = s.homes; views = s.views }
  rung s r zero n behind = absurd (omega (arith, behind))
  rung s r (suc zero) n behind = absurd (omega (arith, behind))
  rung s r (suc (suc i)) n behind = record {
    moment = r.moment;
    bells = set r.bells i n;
    words = ap (λ ws. set ws (suc (suc i)) n) r.words;
    slots = r.slots;
    terms_are = r.terms_are;
    most_is = r.most_is;
    bounded = r.bounded;
    tickets = r.tickets;
    count = r.count;
    at_home = r.at_home;
    out = r.out;
    fits = r.fits;
    receipts = r.receipts;
    unheard = r.unheard;
    numbers = r.numbers;
  }

  pub rings : (slots id i k : ℕ) (f : ℕ → ℕ) (m : Mine) → 2 ≤ i → Allows Rule slots id m i f (stayed (step slots i k 0 none) m)
  rings slots id i k f m behind s r _ at _ =
      let n : ℕ = f (get_or s.words i 0) in
      (m.0, keeps, tt, subst (λ vs. Rule record { words = set s.words i n; homes = s.homes; views = vs }) (sym (set_again s.views id m.0 at)) (rung s r i n behind), refl)
