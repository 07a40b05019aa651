-- Words by themselves, without the space in front of the first.
use Rattle.std.proofs.Common.{◌≡◌, ◌∷◌, ◌++◌, [], ℕ, List, sym, refl, ap, ◌∙◌}
use Rattle.std.specs.Prelude.{codes, flat_map}
use Rattle.std.proofs.lemmas.List.{append-nil}
use Rattle.clearance_rules.specs.declared.limit.Limit.{Limit}
use Rattle.clearance_rules.specs.declared.limit.Limit.TheVariants as limit
use Rattle.journal_text.specs.Entries.{limit_words}
use Rattle.journal_text.specs.Parts.{limit_text}
use Rattle.journal_text.specs.Words.{Adds, Words, joined, spaced}

-- words behind spaces are a space, and the words with one space between them
spaced_each : (ws : Words) → spaced ws ≡ flat_map (λ w. 32 ∷ w) ws
unfolding spaced
spaced_each [] = refl
spaced_each (w ∷ ws) = ap (λ t. (32 ∷ w) ++ t) (spaced_each ws)

spaced_joined : (w : List ℕ) (ws : Words) → spaced (w ∷ ws) ≡ 32 ∷ joined 32 (λ x. x) (w ∷ ws)
unfolding spaced
spaced_joined w ws = ap (λ t. (32 ∷ w) ++ t) (spaced_each ws)

-- a limit has a first word
first_word : (failing : Limit) → (rest : Words) × (limit_words failing [] ≡ codes "segment" ∷ rest)
first_word (limit.Closed segment) = (_, refl)
first_word (limit.Height segment has allowed) = (_, refl)
first_word (limit.Width segment has allowed) = (_, refl)
first_word (limit.Length segment has allowed) = (_, refl)
first_word (limit.Gross segment has allowed) = (_, refl)
first_word (limit.Group segment i j weight most allowance) = (_, refl)
first_word (limit.Tridem segment i j weight allowed) = (_, refl)
first_word (limit.Moment segment span has design rating) = (_, refl)
first_word (limit.Shear segment span has design rating) = (_, refl)

-- a text to which only the words of a limit were added is a space and its text
pub limit_alone : (old new : List ℕ) (failing : Limit) → old ≡ [] → Adds old new (limit_words failing) → new ≡ 32 ∷ limit_text failing
unfolding spaced
limit_alone old new failing none adds =
    let words = first_word failing in
    let whole : new ≡ spaced (limit_words failing []) = sym (append-nil new) ∙ (sym (adds []) ∙ ap (λ t. t ++ spaced (limit_words failing [])) none) in
    whole ∙ (ap spaced words.1 ∙ (spaced_joined (codes "segment") words.0 ∙ ap (λ ws. 32 ∷ joined 32 (λ x. x) ws) (sym words.1)))
