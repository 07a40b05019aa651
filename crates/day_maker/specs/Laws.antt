-- What is made is a day file.
use Rattle.std.specs.Prelude.{◌≡◌, ◌≤◌, ℕ, Ok}
use Rattle.day_text.specs.Days.{DayParts, day_of}
use Rattle.day_maker.specs.Made.{made_day}

-- for every seed and every size from 1 to 40 there is a day file that the text is
abbrev pub MadeDaysAreAccepted : Type 0
MadeDaysAreAccepted = (seed size : ℕ) → 1 ≤ size → size ≤ 40 → (file : DayParts) × (day_of (made_day seed size) ≡ Ok file)
