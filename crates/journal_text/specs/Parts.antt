-- Parts of a line, each as a text of its own.
use Rattle.std.specs.Prelude.{◌≡◌, ℕ, List, [], ◌∷◌}
use Rattle.clearance_rules.specs.declared.limit.Limit.{Limit}
use Rattle.journal_text.specs.Entries.{limit_words}
use Rattle.journal_text.specs.Words.{joined}

-- a text begins with a space
abbrev pub BeginsWithSpace : List ℕ → Type 0
BeginsWithSpace text = (rest : List ℕ) × (text ≡ 32 ∷ rest)

-- a limit that fails: its words with one space between them
abbrev pub limit_text : Limit → List ℕ
limit_text failing = joined 32 (λ word. word) (limit_words failing [])
