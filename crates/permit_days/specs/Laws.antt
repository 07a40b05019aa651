-- Laws of days.
use Rattle.std.specs.Prelude.{◌≡◌, ◌⊎◌, ◌↔◌, ℕ, ◌<◌, ◌<ℤ◌, true, List, Ok}
use Rattle.std.specs.declared.cmp.Ordering.TheVariants.{Less}
use Rattle.std.specs.Ordering.{nat_cmp}
use Rattle.std.specs.Cmp.Lexicographic.{slice_cmp}
use Rattle.permit_days.specs.Days.{day_of_month, is_day_text, month_of, day_number_of, reading_of, year_of}

-- the text of a day is read as that day
abbrev pub ReadsBack : Type 0
ReadsBack = (day : List ℕ) → is_day_text day ≡ true → reading_of day ≡ Ok day

-- the first day is in an earlier year, or in that year and an earlier month, or in that month too and earlier in it
abbrev pub IsEarlier : List ℕ → List ℕ → Type 0
IsEarlier a b =
    (year_of a < year_of b)
    ⊎ ((year_of a ≡ year_of b) × ((month_of a < month_of b) ⊎ ((month_of a ≡ month_of b) × (day_of_month a < day_of_month b))))

-- the order of the bytes is the order of the calendar
abbrev pub AreOrderedByCalendar : Type 0
AreOrderedByCalendar =
    (a b : List ℕ) → is_day_text a ≡ true → is_day_text b ≡ true → (slice_cmp nat_cmp a b ≡ Less) ↔ IsEarlier a b

-- the order of the bytes is the order of the day numbers
abbrev pub AreOrderedByNumber : Type 0
AreOrderedByNumber =
    (a b : List ℕ) → is_day_text a ≡ true → is_day_text b ≡ true
    → (slice_cmp nat_cmp a b ≡ Less) ↔ (day_number_of a <ℤ day_number_of b)
