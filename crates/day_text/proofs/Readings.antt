-- What the forms of fields bound: numbers have nine digits at most, days are of the calendar, and routes are eight at most.
use Rattle.std.proofs.Common.{◌≡◌, ◌≤◌, ◌∷◌, ◌&&◌, [], List, ℕ, Bool, true, false, not, cond, Option, Some, None, Ok, Err, length, refl, subst, arith, rules}
use Rattle.std.specs.Prelude.{◌==◌, nat_le, option_and_then, option_map}
use Rattle.std.specs.List.{list_all, slice_split}
use Rattle.std.specs.Char.{is_ascii_digit}
use Rattle.std.specs.Str.Parse.{digits_value}
use Rattle.std.proofs.lemmas.Bool.{leb-true}
use Rattle.std.proofs.lemmas.Str.Parse.{IsNumeralModel, numerals_by_value, digits_value_short}
use Rattle.permit_days.specs.Days.{has_shape, is_day, is_day_text, day_of_month as day_in_month, month_of, year_of}
use Rattle.permit_days.specs.declared.refusal.DayRefusal.TheVariants.{NoSuchDay, Shape}
use Rattle.day_text.specs.Fields.{day_field as day_field_of, day_or_none, number_field, of_each, route_of, routes_field}

-- words that are read
own : IsNumeralModel (λ ds. list_all is_ascii_digit ds ≡ true) (digits_value 10)
own = numerals_by_value _ (search rules)

pub number_fits : (text : List ℕ) (n : ℕ) → number_field text ≡ Some n → n ≤ 999999999
unfolding number_field
number_fits text n e = by (nat_le 1 (length text)) (nat_le (length text) 9) (list_all is_ascii_digit text) refl refl e
  where
    by : (a b c : Bool) → nat_le (length text) 9 ≡ b → list_all is_ascii_digit text ≡ c → cond ((a && b) && c) (Some (digits_value 10 text)) None ≡ Some n → n ≤ 999999999
    by true true true few digits e =
        let short = digits_value_short own text 9 digits (leb-true _ _ few) in
        let same : digits_value 10 text ≡ n = cc in
        omega (arith, short, same)
    by true true false few digits e = cc
    by true false c few digits e = cc
    by false b c few digits e = cc

day_fits : (text day : List ℕ) → day_field_of text ≡ Some (Some day) → is_day_text day ≡ true
day_fits text day e = by (has_shape text) (is_day (year_of text) (month_of text) (day_in_month text)) refl refl e
  where
    by : (a b : Bool) → has_shape text ≡ a → is_day (year_of text) (month_of text) (day_in_month text) ≡ b
        → day_or_none (cond (not a) (Err Shape) (cond (not b) (Err NoSuchDay) (Ok text))) ≡ Some (Some day) → is_day_text day ≡ true
    by true true p q k = let is : text ≡ day = cc in subst (λ (d : List ℕ). is_day_text d ≡ true) is (rw (p, q) refl)
    by true false p q k = absurd (cc k)
    by false b p q k = absurd (cc k)

-- a day, if there is one, is of the calendar
abbrev pub IsMaybeDay : Option (List ℕ) → Type 0
IsMaybeDay None = Unit {0}
IsMaybeDay (Some day) = is_day_text day ≡ true

pub maybe_day : (text : List ℕ) (o : Option (List ℕ)) → day_field_of text ≡ Some o → IsMaybeDay o
maybe_day text None e = tt
maybe_day text (Some day) e = day_fits text day e

pub there_day : (o : Option (List ℕ)) (day : List ℕ) → IsMaybeDay o → o ≡ Some day → is_day_text day ≡ true
there_day o day h e = subst IsMaybeDay e h

-- as many are given as there are things
pub each_long : {A B : Type 0} (f : A → Option B) (xs : List A) (ys : List B) → of_each f xs ≡ Some ys → length ys ≡ length xs
each_long {A} {B} f [] ys e = let same : [] ≡ ys = cc in subst (λ (l : List B). length l ≡ 0) same refl
each_long {A} {B} f (x ∷ xs) ys e = by (f x) (of_each f xs) (each_long f xs) e
  where
    by : (first : Option B) (others : Option (List B)) → ((found : List B) → others ≡ Some found → length found ≡ length xs) → option_and_then (λ y. option_map (λ more. y ∷ more) others) first ≡ Some ys → length ys ≡ length (x ∷ xs)
    by None others k e = cc
    by (Some y) None k e = cc
    by (Some y) (Some more) k e =
        let same : y ∷ more ≡ ys = cc in
        let long = k more refl in
        subst (λ (l : List B). length l ≡ length (x ∷ xs)) same (omega (arith, long))

-- a route field has eight routes at most
pub few_in_field : (text : List ℕ) (routes : List (List (List ℕ))) → routes_field text ≡ Some routes → length routes ≤ 8
few_in_field text routes e = by (length text == 0) (nat_le (length (slice_split (λ b. b == 124) text)) 8) refl e
  where
    by : (empty few : Bool) → nat_le (length (slice_split (λ b. b == 124) text)) 8 ≡ few
        → cond empty (Some []) (cond few (of_each route_of (slice_split (λ b. b == 124) text)) None) ≡ Some routes → length routes ≤ 8
    by true few is e = let same : [] ≡ routes = cc in subst (λ (l : List (List (List ℕ))). length l ≤ 8) same (omega arith)
    by false false is e = cc
    by false true is e =
        let long = each_long route_of (slice_split (λ b. b == 124) text) routes e in
        let most = leb-true _ _ is in
        omega (arith, long, most)
