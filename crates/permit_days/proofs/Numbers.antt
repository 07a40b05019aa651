-- The order of the bytes of days is the order of their numbers.
use Rattle.std.proofs.Common.{◌≡◌, ◌⊎◌, ◌≤◌, ◌<ℤ◌, ℕ, List, pos, true, inl, inr, arith, sym}
use Rattle.std.specs.Prelude.{◌&&◌, nat_le}
use Rattle.std.specs.Cmp.{second_so}
use Rattle.std.proofs.lemmas.Bool.Decides.{nat_tests}
use Rattle.std.proofs.lemmas.Bool.{cases_order}
use Rattle.jiff_core.specs.Calendar.{days_from_civil, days_in_month, IsCivilDate}
use Rattle.jiff_core.proofs.CalendarLemmas.{days_from_civil-day_count, day_count-day, day_count-lt_month, day_count-lt_year}
use Rattle.jiff_core.proofs.SignedLemmas.{signed_arith}
use Rattle.permit_days.specs.Days.{day_of_month, has_shape, is_day, is_day_text, month_of, day_number_of, year_of}
use Rattle.permit_days.specs.Laws.{IsEarlier}
use Rattle.permit_days.proofs.Orders.{IsBefore}

-- the bounds of a day's parts, in a month of so many days
record IsWithin (y m d days : ℕ) : Type 0 where
  year : y ≤ 9999
  first_month : 1 ≤ m
  last_month : m ≤ 12
  first_day : 1 ≤ d
  last_day : d ≤ days

within : (y m d days : ℕ) → (nat_le 1 y && nat_le y 9999 && nat_le 1 m && nat_le m 12 && nat_le 1 d && nat_le d days) ≡ true → IsWithin y m d days
within y m d days h = record {
  year = grind (arith, nat_tests);
  first_month = grind (arith, nat_tests);
  last_month = grind (arith, nat_tests);
  first_day = grind (arith, nat_tests);
  last_day = grind (arith, nat_tests);
}

civil : (y m d : ℕ) → is_day y m d ≡ true → IsCivilDate (pos y) m d
civil y m d h =
    let w = within y m d (days_in_month (pos y) m) h in
    ((omega (arith, signed_arith), omega (arith, signed_arith, w.year)), (w.first_month, w.last_month), (w.first_day, w.last_day))

module _ (y m d y' m' d' : ℕ) (h : is_day y m d ≡ true) (k : is_day y' m' d' ≡ true) where
  lower : IsBefore y m d y' m' d' → days_from_civil (pos y) m d <ℤ days_from_civil (pos y') m' d'
  lower (inl year) = omega (arith, signed_arith, days_from_civil-day_count, day_count-lt_year (pos y) m d (pos y') m' d' (civil y m d h) (civil y' m' d' k).2.0 (omega (arith, signed_arith, year)))
  lower (inr (year, inl month)) = rw (← year) (omega (arith, signed_arith, days_from_civil-day_count, day_count-lt_month (pos y) m d m' d' (civil y m d h) (civil y' m' d' k).2.0 month))
  lower (inr (year, inr day)) = rw (← year, ← day.0) (omega (arith, signed_arith, days_from_civil-day_count, day.1, day_count-day (pos y) m d d' (civil y m d h).2.0 (civil y' m' d' k).2.0))

-- of two days one is before the other, or they have the same parts
by_parts : (y m d y' m' d' : ℕ) → IsBefore y m d y' m' d' ⊎ (IsBefore y' m' d' y m d ⊎ ((y ≡ y') × (m ≡ m') × (d ≡ d')))
by_parts y m d y' m' d' = elim (cases_order y y') [
  | inr (inl less) ↦ inl (inl less)
  | inr (inr more) ↦ inr (inl (inl more))
  | inl year ↦ elim (cases_order m m') [
    | inr (inl less) ↦ inl (inr (year, inl less))
    | inr (inr more) ↦ inr (inl (inr (sym year, inl more)))
    | inl month ↦ elim (cases_order d d') [
      | inr (inl less) ↦ inl (inr (year, inr (month, less)))
      | inr (inr more) ↦ inr (inl (inr (sym year, inr (sym month, more))))
      | inl day ↦ inr (inr (year, month, day))
    ]
  ]
]

there : (text : List ℕ) → is_day_text text ≡ true → is_day (year_of text) (month_of text) (day_of_month text) ≡ true
there text h = second_so (has_shape text) (is_day (year_of text) (month_of text) (day_of_month text)) h

module _ (a b : List ℕ) (h : is_day_text a ≡ true) (k : is_day_text b ≡ true) where
  pub lower_number : IsEarlier a b → day_number_of a <ℤ day_number_of b
  lower_number before = lower (year_of a) (month_of a) (day_of_month a) (year_of b) (month_of b) (day_of_month b) (there a h) (there b k) before

  pub earlier_day : day_number_of a <ℤ day_number_of b → IsEarlier a b
  earlier_day less = elim (by_parts (year_of a) (month_of a) (day_of_month a) (year_of b) (month_of b) (day_of_month b)) [
    | inl before ↦ before
    | inr (inl after) ↦ absurd (omega (arith, signed_arith, less, lower (year_of b) (month_of b) (day_of_month b) (year_of a) (month_of a) (day_of_month a) (there b k) (there a h) after))
    | inr (inr same) ↦ absurd (let e : day_number_of a ≡ day_number_of b = rw (same.0, same.1, same.2) in omega (arith, signed_arith, less, e))
  ]
