-- A journal in front of something else: it ends with the first line that begins with `end `.
use Rattle.std.specs.Prelude.{◌≡◌, ◌++◌, [], ◌⊎◌, ℕ, Bool, true, false, List, codes, take}
use Rattle.std.specs.Str.{bytes_eq}
use Rattle.std.specs.List.{AllByRecursion}
use Rattle.journal_text.specs.Journals.{ended}
use Rattle.journal_reader.specs.Journals.{IsLine, lines_text}

-- whether a line begins as the last line of a journal does
abbrev pub begins_end : List ℕ → Bool
begins_end line = bytes_eq (codes "end ") (take 4 line)

-- a line that does not
abbrev pub IsOther : List ℕ → Type 0
IsOther line = IsLine line × (begins_end line ≡ false)

-- the bytes are these two parts: the first ends with the first line that begins with `end `, and its line feed; where there is
-- no such line, it is all of them
pub record IsCutBehindEnd (bytes front rest : List ℕ) : Type 0 where
  pub whole : bytes ≡ front ++ rest
  pub before : List (List ℕ)
  pub others : AllByRecursion IsOther before
  pub last : List ℕ
  pub line : IsLine last
  pub end : ((begins_end last ≡ true) × (front ≡ lines_text before ++ ended last))
      ⊎ ((rest ≡ []) × (front ≡ lines_text before ++ last))

-- bytes are cut in one way alone
abbrev pub CutsAreOne : Type 0
CutsAreOne =
    (bytes front rest other more : List ℕ) → IsCutBehindEnd bytes front rest → IsCutBehindEnd bytes other more → (front ≡ other) × (rest ≡ more)
