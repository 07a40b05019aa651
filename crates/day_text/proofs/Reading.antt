-- How the iterator of csv goes over the records of a text.
use Rattle.std.proofs.Common.{◌≡◌, ◌≢◌, ◌⊎◌, ◌<◌, ◌∙◌, ◌∷◌, [], ℕ, List, length, Option, Some, None, Result, Ok, Err, Bool, true, false, Bor, refl, ap, sym, inl, inr, ◌&&◌, eqb}
use Rattle.std.specs.Cmp.{first_so, second_so}
use Rattle.std.specs.List.{list_all}
use Rattle.std.specs.Str.{is_utf8}
use Rattle.std.proofs.lemmas.Str.{IsUtf8-from_is_utf8, is_utf8-from_IsUtf8}
use Rattle.std.proofs.lemmas.Bool.{eqb-true}
use Rattle.csv.specs.Machine.{Read, next_record}
use Rattle.csv.specs.Reading.{FailStep, FlexibleStep, NextIs, ReadsNext, Reached, Ready, TextStep, default_config, source_of}
use Rattle.csv.specs.Records.{AllText, Row, fields_of}
use Rattle.csv.specs.declared.error.Error.{Error}
use Rattle.csv.specs.declared.error.ErrorKind.TheVariants as kind
use Rattle.csv.specs.declared.parser.State.{State}
use Rattle.csv.specs.declared.reader.Reader.{Reader}
use Rattle.csv.specs.declared.reader.Trim.TheVariants as trim
use Rattle.csv.proofs.ReadFacts.{rows-end, rows-more}
use Rattle.day_text.specs.Records.{is_record}
use Rattle.day_text.proofs.Rows.{rows_from, rows_from_none, rows_from_some}

-- what a slice tells that it has left
abbrev pub rem : Bor (List ℕ) → Option (List ℕ)
rem s = Some s.now

-- the reader has these records left, all of eight fields so far
abbrev pub IsReading : Reader (Bor (List ℕ)) → ℕ → List (List (List ℕ)) → Type 0
IsReading r left rows =
    (r.trim ≡ trim.None) × Ready r × (0 < left) × (r.config ≡ default_config) × (r.flexible ≡ false) × (r.failed ≡ false)
    × ((r.expected ≡ None) ⊎ (r.expected ≡ Some 8))
    × (y : List ℕ) × (source_of rem r ≡ Some y) × (rows_from r.state y ≡ rows)

-- what a step of the iterator says
abbrev pub Steps : Reader (Bor (List ℕ)) → Reader (Bor (List ℕ)) → ℕ → Option (Result Row Error) → Type 0
Steps a b left r = TextStep rem a b left r × FailStep a b left r × FlexibleStep a b r

pub all_text : (fields : List (List ℕ)) → list_all is_utf8 fields ≡ true → AllText fields
unfolding AllText
all_text [] h = tt
all_text (f ∷ fields) h = (IsUtf8-from_is_utf8 f (first_so (is_utf8 f) (list_all is_utf8 fields) h), all_text fields (second_so (is_utf8 f) (list_all is_utf8 fields) h))

pub all_utf8 : (fields : List (List ℕ)) → AllText fields → list_all is_utf8 fields ≡ true
unfolding AllText
all_utf8 [] h = refl
all_utf8 (f ∷ fields) h = rw (is_utf8-from_IsUtf8 f h.0) (all_utf8 fields h.1)

no_record_by_length : (fields : List (List ℕ)) → length fields ≢ 8 → is_record fields ≡ false
no_record_by_length fields h = by (eqb (length fields) 8) refl
  where
    by : (b : Bool) → eqb (length fields) 8 ≡ b → (b && list_all is_utf8 fields) ≡ false
    by true e = absurd (h (eqb-true (length fields) 8 e))
    by false e = refl

no_record_by_text : (fields : List (List ℕ)) → ¬ (AllText fields) → is_record fields ≡ false
no_record_by_text fields h = by (list_all is_utf8 fields) refl (eqb (length fields) 8)
  where
    by : (b : Bool) → list_all is_utf8 fields ≡ b → (c : Bool) → (c && b) ≡ false
    by true e c = absurd (h (all_text fields e))
    by false e true = refl
    by false e false = refl

-- a record was taken
took : (s s2 : State) (y : List ℕ) (k : Option (List ℕ)) (fields : List (List ℕ)) → ReadsNext default_config s (Some y) k true fields s2
    → (rest : List (List (List ℕ))) × (rows_from s y ≡ fields ∷ rest)
took s s2 y None fields h = absurd h
took s s2 y (Some ys) fields h = by (next_record default_config s [] [] y) refl h
  where
    by : (o : Option Read) → next_record default_config s [] [] y ≡ o → NextIs o true fields s2 ys → (rest : List (List (List ℕ))) × (rows_from s y ≡ fields ∷ rest)
    by None e n = absurd (cc n)
    by (Some p) e n = (rows_from p.1 p.2, rows_from_some s y p e ∙ ap (λ f. f ∷ rows_from p.1 p.2) (sym n.1))

-- the next record, and the rest
pub reading_more : (a b : Reader (Bor (List ℕ))) (left left2 : ℕ) (rows : List (List (List ℕ))) (row : Row) → IsReading a left rows → Steps a b left2 (Some (Ok row)) → length (fields_of row) ≡ 8
    → (rest : List (List (List ℕ))) × (rows ≡ fields_of row ∷ rest) × IsReading b left2 rest
unfolding Reached
reading_more a b left left2 rows row i s eight =
    let (t, ready, some, config, flexible, failed, expected, y, source, left_rows) = i in
    let (text, fails, flex) = s in
    let m = rows-more rem a b (fields_of row) default_config a.state y y [] config source (refl, refl) text.0 in
    let (z, at_z, reached) = m in
    let (p, next, same, done) = reached in
    let first = rows_from_some a.state y p next in
    (rows_from p.1 p.2, sym left_rows ∙ (first ∙ ap (λ f. f ∷ rows_from p.1 p.2) (sym same)), (text.0.3 ∙ t, inl text.1, text.3, text.0.2 ∙ config, flex ∙ flexible, fails.1, inr ((text.0.5 refl flexible).1 ∙ ap (λ n. Some n) eight), z, at_z, ap (λ q. rows_from q z) (sym done.0) ∙ ap (rows_from p.1) (sym done.1)))

-- the next record, whatever its length
pub reading_first : (a b : Reader (Bor (List ℕ))) (left left2 : ℕ) (rows : List (List (List ℕ))) (row : Row) → IsReading a left rows → Steps a b left2 (Some (Ok row))
    → (rest : List (List (List ℕ))) × (rows ≡ fields_of row ∷ rest)
reading_first a b left left2 rows row i s =
    let (t, ready, some, config, flexible, failed, expected, y, source, left_rows) = i in
    let (rest, first) = took a.state b.state y _ (fields_of row) (rw (config, source) at s.0.0.0) in
    (rest, sym left_rows ∙ first)

-- the end of the records
pub reading_end : (a b : Reader (Bor (List ℕ))) (left left2 : ℕ) (rows : List (List (List ℕ))) → IsReading a left rows → Steps a b left2 None → rows ≡ []
reading_end a b left left2 rows i s =
    let (t, ready, some, config, flexible, failed, expected, y, source, left_rows) = i in
    sym left_rows ∙ rows_from_none a.state y (rows-end rem a b [] default_config y config source s.0)

-- a record of another length is refused
pub reading_unequal : (a b : Reader (Bor (List ℕ))) (left left2 : ℕ) (rows : List (List (List ℕ))) (e : Error) (pos : _) (n m : ℕ) → IsReading a left rows → Steps a b left2 (Some (Err e)) → e.kind ≡ kind.UnequalLengths pos n m
    → (fields : List (List ℕ)) × (rest : List (List (List ℕ))) × (rows ≡ fields ∷ rest) × (is_record fields ≡ false)
reading_unequal a b left left2 rows e pos n m i s k =
    let (t, ready, some, config, flexible, failed, expected, y, source, left_rows) = i in
    let why = rw k at s.0 in
    let (rigid, told, other, fields, taken, len) = why in
    let (rest, first) = took a.state b.state y _ fields (rw (config, source) at taken) in
    let not_eight : length fields ≢ 8 = λ eight. elim expected [
      | inl none ↦ cc (none, told)
      | inr known ↦ let same : Some 8 ≡ Some n = sym known ∙ told in let seen : 8 ≡ n = cc in other (sym seen ∙ (sym eight ∙ len))
    ] in
    (fields, rest, sym left_rows ∙ first, no_record_by_length fields not_eight)

-- a record that is no text is refused
pub reading_utf8 : (a b : Reader (Bor (List ℕ))) (left left2 : ℕ) (rows : List (List (List ℕ))) (e : Error) (pos : _) (u : _) → IsReading a left rows → Steps a b left2 (Some (Err e)) → e.kind ≡ kind.Utf8 pos u
    → (fields : List (List ℕ)) × (rest : List (List (List ℕ))) × (rows ≡ fields ∷ rest) × (is_record fields ≡ false)
reading_utf8 a b left left2 rows e pos u i s k =
    let (t, ready, some, config, flexible, failed, expected, y, source, left_rows) = i in
    let why = rw k at s.0 in
    let (is_text, fields, taken, no_text) = why in
    let (rest, first) = took a.state b.state y _ fields (rw (config, source) at taken) in
    (fields, rest, sym left_rows ∙ first, no_record_by_text fields no_text)
