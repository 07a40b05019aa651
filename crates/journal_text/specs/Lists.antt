-- The list of places that was printed last.
use Rattle.std.specs.Prelude.{◌≡◌, ◌⊎◌, ◌∷◌, [], ℕ, List}
use Rattle.journal_text.specs.Words.{index, list_text}

-- the text that is kept is that of the places that are kept, behind a space, or there is none
abbrev pub IsListText : List ℕ → List ℕ → Type 0
IsListText places text = (text ≡ []) ⊎ (text ≡ 32 ∷ list_text index places)
