-- Texts that follow one another: the next of them, and that there is only one whole where each part has no other text.
use Rattle.std.proofs.Common.{◌≡◌, ◌∙◌, ◌+◌, ◌<◌, ◌∷◌, ◌++◌, [], ℕ, List, length, take, get_or, refl, ap, sym, append_assoc, append-nil}
use Rattle.std.proofs.lemmas.List.{take_more}
use Rattle.std.specs.List.{AllByRecursion}
use Rattle.report_text.specs.Probes.{AddsOne, AreTexts}

module _ {X : Type 0} (IsText : X → List ℕ → Type 0) where
  texts_more : (xs : List X) (x : X) (text one : List ℕ) → AreTexts IsText xs text → IsText x one
      → AreTexts IsText (xs ++ x ∷ []) (text ++ one)
  texts_more [] x text one h k = (one, [], k, refl, ap (λ t. t ++ one) h ∙ sym (append-nil one))
  texts_more (y ∷ xs) x text one h k =
      let (first, rest, is, are, e) = h in
      (first, rest ++ one, is, texts_more xs x rest one are k, ap (λ t. t ++ one) e ∙ append_assoc first rest one)

  -- the next thing adds its text
  pub adds_next : (xs : List X) (i : ℕ) (d : X) (old text new : List ℕ) → i < length xs → AddsOne (AreTexts IsText (take i xs)) old text
      → AddsOne (IsText (get_or xs i d)) text new → AddsOne (AreTexts IsText (take (i + 1) xs)) old new
  adds_next xs i d old text new within (more, are, grown) (one, is, longer) =
      rw (take_more xs i d within) (more ++ one, texts_more (take i xs) (get_or xs i d) more one are is, longer ∙ (ap (λ t. t ++ one) grown ∙ append_assoc old more one))

  -- where each has one text, all have one
  pub texts_are_one : (IsSound : X → Type 0) → ((x : X) (a b : List ℕ) → IsSound x → IsText x a → IsText x b → a ≡ b)
      → (xs : List X) (a b : List ℕ) → AllByRecursion IsSound xs → AreTexts IsText xs a → AreTexts IsText xs b → a ≡ b
  texts_are_one IsSound each [] a b sound h k = h ∙ sym k
  texts_are_one IsSound each (x ∷ xs) a b sound h k =
      let (first, rest, is, are, e) = h in
      let (first', rest', is', are', e') = k in
      let others = texts_are_one IsSound each xs rest rest' sound.1 are are' in
      e ∙ (ap (λ t. t ++ rest) (each x first first' sound.0 is is') ∙ (ap (λ t. first' ++ t) others ∙ sym e'))
