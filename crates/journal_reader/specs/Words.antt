-- What single words spell, and the words of what is left of a line.
use Rattle.std.specs.Prelude.{◌≡◌, ℕ, zero, suc, ◌==◌, ◌+◌, ◌^◌, ◌-◌, ◌*◌, ◌%◌, ◌&&◌, nat_lt, nat_le, if◌then◌else◌, Bool, true, false, List, [], ◌∷◌, length, Option, Some, None, option_map, option_and_then, IfSome, codes}
use Rattle.std.specs.Borrow.{Bor}
use Rattle.std.specs.Result.{result_ok}
use Rattle.std.specs.List.{slice_split}
use Rattle.std.specs.Fmt.{decimal}
use Rattle.std.specs.Str.{bytes_eq}
use Rattle.std.specs.Str.Parse.{digits_value}
use Rattle.influence_line.specs.Fractions.{Ratio}
use Rattle.permit_days.specs.Days.{reading_of}
use Rattle.journal_text.specs.Words.{Words}

infixl 10 ◌>>=◌
abbrev pub ◌>>=◌ : {A B : Type 0} → Option A → (A → Option B) → Option B
o >>= f = option_and_then f o

abbrev pub is_empty : {A : Type 0} → List A → Bool
is_empty [] = true
is_empty (x ∷ xs) = false

-- the parts of a text around a separator
abbrev pub parts : ℕ → List ℕ → Words
parts sep text = slice_split (λ x. x == sep) text

-- the parts of what is left of a text: none, or a separator and parts
abbrev pub parts_left : ℕ → List ℕ → Words
parts_left sep [] = []
parts_left sep (b ∷ bytes) = parts sep bytes

-- a part that was found, and the parts after it
abbrev pub parts_seen : ℕ → Option (Bor (List ℕ) × Bor (List ℕ)) → Option (List ℕ × Words)
parts_seen sep found = option_map (λ x. (x.0.now, parts_left sep x.1.now)) found

-- the words that are left of a line
abbrev pub left : List ℕ → Words
left = parts_left 32

-- the first word and the others
abbrev pub word_at : Words → Option (List ℕ × Words)
word_at [] = None
word_at (w ∷ ws) = Some (w, ws)

-- what follows this word
abbrev pub after_word : List ℕ → Words → Option Words
after_word text [] = None
after_word text (w ∷ ws) = if bytes_eq w text then Some ws else None

-- the number that a text of digits spells, after n
abbrev pub value_from : ℕ → List ℕ → ℕ
value_from n [] = n
value_from n (c ∷ cs) = value_from (n * 10 + (c - 48)) cs

-- the number below a bound that a word spells: there is one spelling of each
unfoldable pub number_spelled : ℕ → List ℕ → Option ℕ
number_spelled bound word = if bytes_eq (decimal (digits_value 10 word)) word && nat_lt (digits_value 10 word) bound then Some (digits_value 10 word) else None

abbrev pub number32 : List ℕ → Option ℕ
number32 word = number_spelled (2 ^ 32) word

unfoldable pub read_number : Words → Option (ℕ × Words)
read_number [] = None
read_number (w ∷ ws) = option_map (λ n. (n, ws)) (number32 w)

-- an index, counted from 1
unfoldable pub place_of : List ℕ → Option ℕ
place_of word = do
  n ← number32 word
  if nat_le 1 n && nat_le n 65536 then Some (n - 1) else None

unfoldable pub place_at : Words → Option (ℕ × Words)
place_at [] = None
place_at (w ∷ ws) = option_map (λ n. (n, ws)) (place_of w)

-- a day
unfoldable pub day_spelled : List ℕ → Option (List ℕ)
day_spelled word = result_ok (reading_of word)

unfoldable pub day_at : Words → Option (List ℕ × Words)
day_at [] = None
day_at (w ∷ ws) = option_map (λ d. (d, ws)) (day_spelled w)

-- what each of some words spells
abbrev pub all_of : {A : Type 0} → (List ℕ → Option A) → Words → Option (List A)
all_of read [] = Some []
all_of read (w ∷ ws) = read w >>= λ x. option_map (λ xs. x ∷ xs) (all_of read ws)

-- a list: a dash where it is empty, and else what stands between its commas
unfoldable pub list_of : (List ℕ → Option ℕ) → List ℕ → Option (List ℕ)
list_of read word = if bytes_eq word (codes "-") then Some [] else all_of read (parts 44 word)

-- routes, if there are eight at most
abbrev pub if_few : List (List ℕ) → Option (List (List ℕ))
if_few routes = if nat_le (length routes) 8 then Some routes else None

-- routes: lists of indices between slashes
unfoldable pub routes_spelled : List ℕ → Option (List (List ℕ))
routes_spelled word = all_of (list_of place_of) (parts 47 word) >>= if_few

-- two parts with a separator between them
unfoldable pub pair_of : {A B : Type 0} → ℕ → (List ℕ → Option A) → (List ℕ → Option B) → List ℕ → Option (A × B)
pair_of sep one two word = do
  a ← word_at (parts sep word)
  b ← word_at a.1
  x ← one a.0
  y ← two b.0
  if is_empty b.1 then Some (x, y) else None

-- the greatest common divisor by Euclid's algorithm, in so many steps at most
unfoldable pub divisor_in : ℕ → ℕ → ℕ → ℕ
divisor_in zero a b = a
divisor_in (suc steps) a b = if b == 0 then a else divisor_in steps b (a % b)

-- whether a fraction is in lowest terms
unfoldable pub is_lowest : Ratio → Bool
is_lowest f = nat_le 1 f.den && (divisor_in (f.den + 1) f.num f.den == 1)

abbrev pub wide_of : List ℕ → Option ℕ
wide_of word = number_spelled (2 ^ 128) word

-- a fraction in lowest terms
unfoldable pub fraction_of : List ℕ → Option Ratio
fraction_of word = do
  p ← pair_of 47 wide_of wide_of word
  if is_lowest (record { num = p.0; den = p.1 }) then Some (record { num = p.0; den = p.1 }) else None

-- a group of axles
unfoldable pub group_of : List ℕ → Option (ℕ × ℕ)
group_of word = pair_of 45 place_of place_of word

-- the word is the text of what was found in it, which may stand in a journal
abbrev pub IsTextOf : {A : Type 0} → (A → List ℕ) → (A → Type 0) → List ℕ → Option A → Type 0
IsTextOf text Fits word found = IfSome found (λ x. (word ≡ text x) × Fits x)

-- what a reader found, and the words after it
abbrev pub seen : {A : Type 0} → Option (A × Bor (List ℕ)) → Option (A × Words)
seen found = option_map (λ x. (x.0, left x.1.now)) found

-- what a reader found stands in front of the words after it, and may stand there
abbrev pub Spells : {A : Type 0} → (A → Words → Words) → (A → Type 0) → Words → Option (A × Bor (List ℕ)) → Type 0
Spells words Fits before found = IfSome found (λ x. (before ≡ words x.0 (left x.1.now)) × Fits x.0)
