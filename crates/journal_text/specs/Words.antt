-- A line as words with one space between them, and the words of numbers.
use Rattle.std.specs.Prelude.{◌≡◌, ℕ, ◌+◌, List, [], ◌∷◌, ◌++◌, flat_map, codes}
use Rattle.std.specs.Fmt.{decimal}

-- words in order, each by its text
abbrev pub Words : Type 0
Words = List (List ℕ)

-- the text of words, each behind a space
unfoldable pub spaced : Words → List ℕ
spaced [] = []
spaced (w ∷ ws) = 32 ∷ w ++ spaced ws

-- a text grew by the words that f puts in front of others, whatever follows
abbrev pub Adds : List ℕ → List ℕ → (Words → Words) → Type 0
Adds old new f = (ws : Words) → old ++ spaced (f ws) ≡ new ++ spaced ws

-- an index, printed as it is counted from 1
abbrev pub index : ℕ → List ℕ
index i = decimal (i + 1)

-- texts with a separator between them
abbrev pub joined : {A : Type 0} → ℕ → (A → List ℕ) → List A → List ℕ
joined sep text [] = []
joined sep text (x ∷ xs) = text x ++ flat_map (λ y. sep ∷ text y) xs

-- a list: a dash where it is empty, and else its numbers with commas between them
abbrev pub list_text : (ℕ → List ℕ) → List ℕ → List ℕ
list_text text [] = codes "-"
list_text text (x ∷ xs) = joined 44 text (x ∷ xs)

-- routes: their lists with slashes between them
abbrev pub routes_text : List (List ℕ) → List ℕ
routes_text routes = joined 47 (list_text index) routes

-- a group of axles, by its first and last
abbrev pub group : ℕ → ℕ → List ℕ
group i j = index i ++ (codes "-" ++ index j)

-- a word, and a list of numbers behind it
abbrev pub numbers_words : List ℕ → List ℕ → Words → Words
numbers_words named numbers ws = named ∷ list_text decimal numbers ∷ ws

-- a word, and a list of indices behind it
abbrev pub places_words : List ℕ → List ℕ → Words → Words
places_words named places ws = named ∷ list_text index places ∷ ws

-- a word, and routes behind it
abbrev pub routes_words : List ℕ → List (List ℕ) → Words → Words
routes_words named routes ws = named ∷ routes_text routes ∷ ws
