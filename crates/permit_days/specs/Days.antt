-- Days and their text, YYYY-MM-DD: the extended form of a calendar date in ISO 8601.
use Rattle.std.specs.Prelude.{ℕ, ◌+◌, ◌-◌, ◌*◌, ℤ, pos, negsuc, ◌-ℤ◌, Bool, not, ◌&&◌, ◌==◌, nat_le, List, length, slice_index, slice_range, Result, Ok, Err, if◌then◌else◌}
use Rattle.std.specs.List.{list_all}
use Rattle.std.specs.Char.{is_ascii_digit}
use Rattle.std.specs.Cmp.Lexicographic.{slice_cmp}
use Rattle.std.specs.Ordering.{is_lt, nat_cmp}
use Rattle.jiff_core.specs.Calendar.{days_from_civil, days_in_month}
use Rattle.permit_days.specs.declared.refusal.DayRefusal.{DayRefusal}
use Rattle.permit_days.specs.declared.refusal.DayRefusal.TheVariants.{Shape, NoSuchDay}

-- four digits, `-`, two digits, `-` and two digits
abbrev pub has_shape : List ℕ → Bool
has_shape text =
    (length text == 10) && list_all is_ascii_digit (slice_range text 0 4) && (slice_index text 4 == 45)
    && list_all is_ascii_digit (slice_range text 5 7) && (slice_index text 7 == 45) && list_all is_ascii_digit (slice_range text 8 10)

-- what the digit at a place stands for
abbrev pub digit_at : List ℕ → ℕ → ℕ
digit_at text i = slice_index text i - 48

-- the number that the digits at a place and the next one write
abbrev pub pair_at : List ℕ → ℕ → ℕ
pair_at text i = 10 * digit_at text i + digit_at text (i + 1)

-- the year that a text of that shape writes
abbrev pub year_of : List ℕ → ℕ
year_of text = 100 * pair_at text 0 + pair_at text 2

-- the month that a text of that shape writes
abbrev pub month_of : List ℕ → ℕ
month_of text = pair_at text 5

-- the day of the month that a text of that shape writes
abbrev pub day_of_month : List ℕ → ℕ
day_of_month text = pair_at text 8

-- the civil calendar has a day of this year, month and day of the month: the years 1 to 9999 of the Gregorian calendar, which is
-- also taken for the years before its introduction, twelve months, and each month's days
abbrev pub is_day : ℕ → ℕ → ℕ → Bool
is_day year month day =
    nat_le 1 year && nat_le year 9999 && nat_le 1 month && nat_le month 12 && nat_le 1 day && nat_le day (days_in_month (pos year) month)

-- the text of a day
abbrev pub is_day_text : List ℕ → Bool
is_day_text text = has_shape text && is_day (year_of text) (month_of text) (day_of_month text)

-- the number of the day that a text writes: how many days it lies after 1 January 1970
abbrev pub day_number_of : List ℕ → ℤ
day_number_of text = days_from_civil (pos (year_of text)) (month_of text) (day_of_month text)

-- a whole number, or 0 where it is negative
abbrev pub or_zero : ℤ → ℕ
or_zero (pos n) = n
or_zero (negsuc n) = 0

-- how many days the last day lies after the first one; 0 where it does not
abbrev pub days_between : List ℕ → List ℕ → ℕ
days_between first last = or_zero (day_number_of last -ℤ day_number_of first)

-- the day that a text writes, or why it is none: its shape, or that there is no such day
abbrev pub reading_of : List ℕ → Result (List ℕ) DayRefusal
reading_of text =
    if not (has_shape text) then Err Shape
    else (if not (is_day (year_of text) (month_of text) (day_of_month text)) then Err NoSuchDay else Ok text)

-- the first day comes before the second: as their texts are all of one length, in the order of their bytes
abbrev pub is_before : List ℕ → List ℕ → Bool
is_before first second = is_lt (slice_cmp nat_cmp first second)
