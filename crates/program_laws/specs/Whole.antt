-- What a certificate says of the journals of days.
use Rattle.std.specs.Prelude.{◌++◌, ℕ, List, None}
use Rattle.permit_program.specs.Headline.{Headline}
use Rattle.clerk_program.specs.Certify.{certify}
use Rattle.clerk_program.specs.WholeJournals.{HasSizes}

-- a journal that a completed day wrote is called whole, with the day file behind it, unless one of the two has too many bytes
abbrev pub DayJournalsAreWhole : Type 0
DayJournalsAreWhole = (day journal : List ℕ) → Headline day journal → HasSizes journal day → certify.Judges (journal ++ day) None
