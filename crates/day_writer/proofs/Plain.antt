-- The records that are read from a text of records of ASCII.
use Rattle.std.proofs.Common.{◌≡◌, ◌∙◌, ◌<◌, ◌≤◌, ◌^◌, ◌∷◌, ◌++◌, [], ℕ, zero, suc, List, None, Bool, true, refl, ap, arith, length, ltb}
use Rattle.std.specs.Prelude.{flat_map}
use Rattle.std.specs.Cmp.{first_so, second_so}
use Rattle.std.specs.Fmt.{decimal}
use Rattle.std.specs.List.{AllByRecursion, list_all}
use Rattle.std.specs.Str.{IsAscii, is_utf8}
use Rattle.std.specs.Str.Parse.{AllDigits}
use Rattle.std.proofs.lemmas.Bool.{lt-ltb, ltb-true}
use Rattle.std.proofs.lemmas.Fmt.{decimal_is_IsNumeral}
use Rattle.std.proofs.lemmas.List.Folds.{list_all-append}
use Rattle.std.proofs.lemmas.Str.{IsUtf8-from_ascii, is_utf8-from_IsUtf8}
use Rattle.std.proofs.lemmas.Str.Parse.{digit_from_value}
use Rattle.csv.specs.Machine.{next_record}
use Rattle.csv.specs.Reading.{default_config}
use Rattle.csv.specs.declared.parser.State.TheVariants as st
use Rattle.csv.proofs.RoundTrip.{read-write}
use Rattle.day_text.specs.Records.{Row, is_record}
use Rattle.day_text.proofs.Rows.{rows_from, rows_from_none, rows_from_some}
use Rattle.day_writer.specs.Texts.{line}

-- a byte of ASCII
abbrev pub is_plain : ℕ → Bool
is_plain b = ltb b 128

abbrev pub IsPlain : List ℕ → Type 0
IsPlain field = list_all is_plain field ≡ true

-- eight fields of ASCII
abbrev pub IsPlainRow : Row → Type 0
IsPlainRow fields = (length fields ≡ 8) × AllByRecursion IsPlain fields

plain_ascii : (field : List ℕ) → IsPlain field → IsAscii field
plain_ascii [] h i = omega arith
plain_ascii (b ∷ bytes) h zero = ltb-true b 128 (first_so (ltb b 128) (list_all is_plain bytes) h)
plain_ascii (b ∷ bytes) h (suc i) = plain_ascii bytes (second_so (ltb b 128) (list_all is_plain bytes) h) i

all_utf8 : (fields : Row) → AllByRecursion IsPlain fields → list_all is_utf8 fields ≡ true
all_utf8 [] h = refl
all_utf8 (f ∷ fields) (h, hs) = rw (is_utf8-from_IsUtf8 f (IsUtf8-from_ascii f (plain_ascii f h))) (all_utf8 fields hs)

-- such a row is a record
pub plain_record : (fields : Row) → IsPlainRow fields → is_record fields ≡ true
plain_record fields (eight, plain) = rw (eight, all_utf8 fields plain) refl

no_more : next_record default_config st.StartRecord [] [] [] ≡ None
unfolding next_record
no_more = refl

-- what is written is read
pub rows_read : (rows : List Row) → AllByRecursion IsPlainRow rows → rows_from st.StartRecord (flat_map line rows) ≡ rows
unfolding line
rows_read [] h = rows_from_none st.StartRecord [] no_more
rows_read ([] ∷ rows) ((e, h), hs) = absurd (omega arith)
rows_read ((f ∷ fields) ∷ rows) ((e, h), hs) =
    rows_from_some st.StartRecord _ (f ∷ fields, st.StartRecord, flat_map line rows) (read-write (f ∷ fields) (flat_map line rows)) ∙ ap (λ (t : List Row). (f ∷ fields) ∷ t) (rows_read rows hs)

pub all_rows : (xs ys : List Row) → AllByRecursion IsPlainRow xs → AllByRecursion IsPlainRow ys → AllByRecursion IsPlainRow (xs ++ ys)
all_rows [] ys h k = k
all_rows (x ∷ xs) ys (h, hs) k = (h, all_rows xs ys hs k)

-- what holds of each digit holds of a number's text
digits_all : (P : ℕ → Bool) → ((b : ℕ) → 48 ≤ b → b ≤ 57 → P b ≡ true) → (ds : List ℕ) → AllDigits 10 ds → list_all P ds ≡ true
digits_all P p [] h = refl
digits_all P p (d ∷ ds) (h, hs) = let r = digit_from_value d h in rw (p d r.0 r.1) (digits_all P p ds hs)

pub decimal_all : (P : ℕ → Bool) → ((b : ℕ) → 48 ≤ b → b ≤ 57 → P b ≡ true) → (n : ℕ) → n < 2 ^ 64 → list_all P (decimal n) ≡ true
decimal_all P p n h = digits_all P p (decimal n) (decimal_is_IsNumeral n h).0.1

pub all_append : (P : ℕ → Bool) (xs ys : List ℕ) → list_all P xs ≡ true → list_all P ys ≡ true → list_all P (xs ++ ys) ≡ true
all_append P xs ys h k = rw (list_all-append P xs ys, h) k

digit_is_plain : (b : ℕ) → 48 ≤ b → b ≤ 57 → is_plain b ≡ true
digit_is_plain b h k = lt-ltb b 128 (omega arith)

pub number_plain : (n : ℕ) → n < 2 ^ 64 → IsPlain (decimal n)
number_plain n h = decimal_all is_plain digit_is_plain n h

-- where one test says yes so does another
pub all_weaker : (P Q : ℕ → Bool) → ((b : ℕ) → P b ≡ true → Q b ≡ true) → (bytes : List ℕ) → list_all P bytes ≡ true → list_all Q bytes ≡ true
all_weaker P Q pq [] h = refl
all_weaker P Q pq (b ∷ bytes) h = rw (pq b (first_so (P b) (list_all P bytes) h)) (all_weaker P Q pq bytes (second_so (P b) (list_all P bytes) h))
