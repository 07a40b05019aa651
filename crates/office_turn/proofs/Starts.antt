-- The table at the start meets the rule.
use Rattle.std.proofs.Common.{◌≡◌, ℕ, true, false, List, [], ◌∷◌, Option, Some, None, sym, refl, true≢false, ◌∙◌, arith}
use mathlib.Core.Option.{some, some-ne-none}
use lib.ListN.{get_elem?}
use Rattle.atomic_table.specs.Table.{State, Me, opening}
use Rattle.office_turn.specs.declared.view.View.{View}
use Rattle.office_turn.specs.Rule.{Turned, Fits, opening_view}
use Rattle.office_turn.proofs.Cases.{false_not_true, some_not_none}
use Rattle.office_turn.proofs.Seats.{seats_more}

module _ {V E T : Type 0} (caller : E → ℕ) (story : V → List E) (terms : V → T) (first : T) (most : ℕ) where
  abbrev Known : Type 0
  Known = View E T

  abbrev Whole : Type 0
  Whole = State (Option V) Known

  abbrev Mine : Type 0
  Mine = Me (Option V) Known

  abbrev Rule : Whole → Type 0
  Rule = Turned caller story terms first most

  pub starts : (words bells : List ℕ) (x : V) → words ≡ 0 ∷ 0 ∷ bells → terms x ≡ first → story x ≡ [] → Rule (opening words (Some x ∷ []) (opening_view first most))
  starts words bells x zeros same empty = let v : Known = opening_view first most in record {
    moment = record { next = 0; serving = 0; history = []; admitted = 0; receipts = []; home = true; terms = first; most = most };
    bells = bells;
    words = zeros;
    slots = refl;
    terms_are = refl;
    most_is = refl;
    bounded = omega arith;
    tickets = record {
      ordered = omega arith;
      drawn = λ j u k at a. absurd (some_not_none k (sym a ∙ only j u at (λ z. z.ticket ≡ None) refl));
      once = λ i j u w k at there a b. absurd (some_not_none k (sym a ∙ only i u at (λ z. z.ticket ≡ None) refl));
      waiting = λ k low high. absurd (omega arith);
    };
    count = refl;
    at_home = λ _. (x, refl, same, empty);
    out = λ away. absurd (true≢false away);
    fits = seats_more (λ j u. u.is_spent ≡ false → Fits caller (record { next = 0; serving = 0; history = []; admitted = 0; receipts = []; home = true; terms = first; most = most }) j u) [] v
        (λ _. record { terms = refl; most = refl; seen = ([], refl); passed_over = ([], refl); root = λ _. (refl, refl, refl, refl); number = λ e. absurd (true≢false e); own = λ e. absurd (true≢false e); looked = λ e. absurd (false_not_true e); worn = λ e. absurd (false_not_true e) })
        (λ j u at. absurd (some-ne-none u (sym at)));
    receipts = λ i r at. absurd (some-ne-none r (sym at));
    unheard = λ n _. refl;
    numbers = record {
      places = refl;
      blank = λ j u at e. absurd (false_not_true (sym (only j u at (λ z. z.is_spent ≡ false) refl) ∙ e));
      gone = λ i r at. absurd (some-ne-none r (sym at));
      heard = λ j u at e. absurd (false_not_true (sym (only j u at (λ z. z.is_spent ≡ false) refl) ∙ e));
      tally = refl;
    };
  }
    where
      only : (j : ℕ) (u : Known) → get_elem? (opening_view first most ∷ []) j ≡ some u → (P : Known → Type 0) → P (opening_view first most) → P u
      only j u at P p = seats_more (λ _ z. P z) [] (opening_view first most) p (λ j u at. absurd (some-ne-none u (sym at))) j u at
