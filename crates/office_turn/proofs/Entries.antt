-- The entries of one caller after one more entry.
use Rattle.std.proofs.Common.{◌≡◌, ℕ, zero, suc, ◌≢◌, eqb, List, [], ◌∷◌, ◌++◌, length, append-nil, cond, sym, ap, ◌∙◌, arith, eq-eqb, ne_eqb}
use mathlib.Core.Option.{some, some-injective, some-ne-none}
use lib.ListN.{get_elem?}
use Rattle.std.proofs.lemmas.List.Elements.{filter-append}
use Rattle.office_turn.specs.Story.{entries_of}
use Rattle.office_turn.proofs.Cases.{bool_cases}

module _ {E : Type 0} (caller : E → ℕ) where
  pub entries_more : (n : ℕ) (es : List E) (e : E) → caller e ≡ n → entries_of caller n (es ++ e ∷ []) ≡ entries_of caller n es ++ e ∷ []
  entries_more n es e is = filter-append (λ e. eqb (caller e) n) es (e ∷ []) ∙ ap (λ b. entries_of caller n es ++ cond b (e ∷ []) []) (eq-eqb (caller e) n is)

  pub entries_same : (n : ℕ) (es : List E) (e : E) → caller e ≢ n → entries_of caller n (es ++ e ∷ []) ≡ entries_of caller n es
  entries_same n es e not = filter-append (λ e. eqb (caller e) n) es (e ∷ []) ∙ (ap (λ b. entries_of caller n es ++ cond b (e ∷ []) []) (ne_eqb (caller e) n not) ∙ append-nil (entries_of caller n es))

  -- an entry's caller has it among its own
  pub heard_of : (es : List E) (k : ℕ) (e : E) → get_elem? es k ≡ some e → entries_of caller (caller e) es ≡ [] → ⊥
  heard_of [] k e at none_there = some-ne-none e (sym at)
  heard_of (x ∷ xs) zero e at none_there = let same : x ≡ e = some-injective x e at in
      let hit : entries_of caller (caller e) (x ∷ xs) ≡ x ∷ entries_of caller (caller e) xs = ap (λ b. cond b (x ∷ entries_of caller (caller e) xs) (entries_of caller (caller e) xs)) (eq-eqb (caller x) (caller e) (ap caller same)) in
      let none : ℕ = 0 in absurd (omega (arith, ap {B = ℕ} length (sym hit ∙ none_there)))
  heard_of (x ∷ xs) (suc k) e at none_there = bool_cases (eqb (caller x) (caller e))
      (λ b. let hit : entries_of caller (caller e) (x ∷ xs) ≡ x ∷ entries_of caller (caller e) xs = ap (λ b. cond b (x ∷ entries_of caller (caller e) xs) (entries_of caller (caller e) xs)) b in
      absurd (omega (arith, ap {B = ℕ} length (sym hit ∙ none_there))))
      (λ b. heard_of xs k e at (sym (ap (λ b. cond b (x ∷ entries_of caller (caller e) xs) (entries_of caller (caller e) xs)) b) ∙ none_there))
