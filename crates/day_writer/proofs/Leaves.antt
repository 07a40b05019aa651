-- Names, numbers and days as the fields of a record.
use Rattle.std.proofs.Common.{◌≡◌, ◌∙◌, ◌<◌, ◌≤◌, ◌^◌, ◌∷◌, [], ℕ, List, Some, Bool, true, false, cond, eqb, inl, inr, refl, ap, arith, lit<, not}
use Rattle.std.specs.Prelude.{Ok, Err, ◌&&◌}
use Rattle.std.specs.Char.{is_ascii_digit}
use Rattle.std.specs.Cmp.{first_so, second_so}
use Rattle.std.specs.Fmt.{decimal}
use Rattle.std.specs.List.{All, AllByRecursion, list_all}
use Rattle.std.proofs.lemmas.Bool.{cases_eq, le-leb, lt-ltb, ne_eqb}
use Rattle.std.proofs.lemmas.Bool.Decides.{nat_tests}
use Rattle.std.proofs.lemmas.Fmt.{decimal_is_IsNumeral, length-decimal-le}
use Rattle.std.proofs.lemmas.List.Elements.{All-from_get_or, recursion_from_All}
use Rattle.std.proofs.lemmas.Str.Parse.{digit_at}
use Rattle.names.specs.Names.{is_name_byte}
use Rattle.permit_days.specs.Days.{day_of_month, has_shape, is_day, is_day_text, month_of, year_of}
use Rattle.permit_days.specs.declared.refusal.DayRefusal.TheVariants.{NoSuchDay, Shape}
use Rattle.permit_days.proofs.Orders.{shape_of}
use Rattle.day_text.specs.Fields.{day_field, day_or_none, name_field, number_field}
use Rattle.day_text.specs.Named.{IsName}
use Rattle.day_text.proofs.Numbers.{number_read}
use Rattle.day_writer.proofs.Plain.{IsPlain, all_weaker, decimal_all, is_plain}

pub digit_is_name_byte : (b : ℕ) → 48 ≤ b → b ≤ 57 → is_name_byte b ≡ true
digit_is_name_byte b h k = rw (le-leb 48 b h, le-leb b 57 k) refl

pub digit_is_digit : (b : ℕ) → 48 ≤ b → b ≤ 57 → is_ascii_digit b ≡ true
digit_is_digit b h k = grind (arith, nat_tests)

-- a number below a billion
pub number_ok : (n : ℕ) → n < 1000000000 → number_field (decimal n) ≡ Some n
number_ok n h =
    let d = decimal_is_IsNumeral n (omega arith) in
    number_read (decimal n) d.0.0 (length-decimal-le 9 n (lit< tt) h (omega arith)) (decimal_all is_ascii_digit digit_is_digit n (omega arith)) ∙ ap Some d.1

-- digits are no byte below them and none above them
pub no_digit : (sign n : ℕ) → sign < 48 → n < 2 ^ 64 → All (λ b. eqb b sign ≡ false) (decimal n)
no_digit sign n low h = All-from_get_or (λ b. eqb b sign ≡ false) (decimal n) 0 (λ i k. let r = digit_at (decimal n) i (decimal_is_IsNumeral n h).0.1 k in let least = r.0 in ne_eqb _ sign (λ e. absurd (omega arith)))

pub no_colon : (n : ℕ) → n < 2 ^ 64 → All (λ b. eqb b 58 ≡ false) (decimal n)
no_colon n h = All-from_get_or (λ b. eqb b 58 ≡ false) (decimal n) 0 (λ i k. let r = digit_at (decimal n) i (decimal_is_IsNumeral n h).0.1 k in let most = r.1 in ne_eqb _ 58 (λ e. absurd (omega arith)))

-- a name
pub name_ok : (name : List ℕ) → IsName name → name_field name ≡ Some name
name_ok name h = rw h refl

name_byte_is_plain : (b : ℕ) → is_name_byte b ≡ true → is_plain b ≡ true
name_byte_is_plain b h = grind (arith, nat_tests)

bytes_of : (name : List ℕ) → IsName name → list_all is_name_byte name ≡ true
bytes_of name h = second_so _ (list_all is_name_byte name) h

pub name_plain : (name : List ℕ) → IsName name → IsPlain name
name_plain name h = all_weaker is_name_byte is_plain name_byte_is_plain name (bytes_of name h)

-- a name has no byte that stands between names
all_apart : (sign : ℕ) → ((b : ℕ) → is_name_byte b ≡ true → eqb b sign ≡ false) → (bytes : List ℕ) → list_all is_name_byte bytes ≡ true → AllByRecursion (λ b. eqb b sign ≡ false) bytes
all_apart sign apart [] h = tt
all_apart sign apart (b ∷ bytes) h = (apart b (first_so (is_name_byte b) (list_all is_name_byte bytes) h), all_apart sign apart bytes (second_so (is_name_byte b) (list_all is_name_byte bytes) h))

no_space : (b : ℕ) → is_name_byte b ≡ true → eqb b 32 ≡ false
no_space b h = grind (arith, nat_tests)

no_bar : (b : ℕ) → is_name_byte b ≡ true → eqb b 124 ≡ false
no_bar b h = grind (arith, nat_tests)

pub name_no_space : (name : List ℕ) → IsName name → AllByRecursion (λ b. eqb b 32 ≡ false) name
name_no_space name h = all_apart 32 no_space name (bytes_of name h)

pub name_no_bar : (name : List ℕ) → IsName name → AllByRecursion (λ b. eqb b 124 ≡ false) name
name_no_bar name h = all_apart 124 no_bar name (bytes_of name h)

-- a day
pub day_ok : (day : List ℕ) → is_day_text day ≡ true → day_field day ≡ Some (Some day)
day_ok day h = by (has_shape day) (is_day (year_of day) (month_of day) (day_of_month day)) h
  where
    by : (a b : Bool) → (a && b) ≡ true → day_or_none (cond (not a) (Err Shape) (cond (not b) (Err NoSuchDay) (Ok day))) ≡ Some (Some day)
    by true true k = refl
    by true false k = absurd (cc k)
    by false b k = absurd (cc k)

plain_each : (text : List ℕ) → AllByRecursion (λ b. b < 128) text → IsPlain text
plain_each [] h = refl
plain_each (b ∷ bytes) (h, hs) = rw (lt-ltb b 128 h) (plain_each bytes hs)

pub day_plain : (day : List ℕ) → is_day_text day ≡ true → IsPlain day
day_plain day h =
    let s = shape_of day h in
    plain_each day (recursion_from_All (λ b. b < 128) day (All-from_get_or (λ b. b < 128) day 0 (λ i within.
    let low : i < 10 = omega (arith, within, s.long) in
    elim (cases_eq i 4) [
      | inl e ↦ (let dash = s.first_dash in rw e (omega (arith, dash)))
      | inr four ↦ elim (cases_eq i 7) [
        | inl e ↦ (let dash = s.second_dash in rw e (omega (arith, dash)))
        | inr seven ↦ (let d = s.digits i low four seven in omega (arith, d.0, d.1))
      ]
    ])))
