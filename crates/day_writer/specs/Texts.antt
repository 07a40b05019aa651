-- The text of records and of fields with several parts.
use Rattle.std.specs.Prelude.{ℕ, ◌-◌, List, [], ◌∷◌, ◌++◌, length, replicate, flat_map}
use Rattle.std.specs.Fmt.{decimal}
use Rattle.csv.specs.Writing.{default_writer, row_text}
use Rattle.axle_train.specs.declared.axle.Axle.{Axle}
use Rattle.day_text.specs.Records.{Row}

-- some fields, and empty ones behind them to make eight
abbrev pub row : Row → Row
row fields = fields ++ replicate (8 - length fields) []

-- the text of a record, as RFC 4180 has it: its fields with a comma between them, in quotes where one calls for them, and a
-- line feed
unfoldable pub line : Row → List ℕ
line fields = row_text default_writer fields

-- the text of records, one after another
abbrev pub text_of : List Row → List ℕ
text_of rows = flat_map line rows

-- the texts of some things, with one byte between two of them
abbrev pub joined : {A : Type 0} → ℕ → (A → List ℕ) → List A → List ℕ
joined between text [] = []
joined between text (x ∷ xs) = text x ++ flat_map (λ y. between ∷ text y) xs

-- an axle, as PLACE:WEIGHT
abbrev pub axle_text : Axle → List ℕ
axle_text a = decimal a.place ++ (58 ∷ decimal a.weight)

-- axles, each as PLACE:WEIGHT, with one space between two of them
abbrev pub axles_text : List Axle → List ℕ
axles_text axles = joined 32 axle_text axles
