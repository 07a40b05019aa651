-- What is written is read, and what is read may be written.
use Rattle.std.specs.Prelude.{◌≡◌, ℕ, List, Ok}
use Rattle.day_text.specs.Days.{DayParts, day_of}
use Rattle.day_writer.specs.Rows.{day_text_of}
use Rattle.day_writer.specs.Writable.{IsWritable}

-- a day that may be written is read back from its text as it was
abbrev pub WhatIsWrittenIsRead : Type 0
WhatIsWrittenIsRead = (file : DayParts) → IsWritable file → day_of (day_text_of file) ≡ Ok file

-- every day that was read may be written
abbrev pub WhatIsReadIsWritable : Type 0
WhatIsReadIsWritable = (bytes : List ℕ) (file : DayParts) → day_of bytes ≡ Ok file → IsWritable file

-- every day that was read is read as the same day from the text that is written of it
abbrev pub WhatIsReadIsReadAgain : Type 0
WhatIsReadIsReadAgain = (bytes : List ℕ) (file : DayParts) → day_of bytes ≡ Ok file → day_of (day_text_of file) ≡ Ok file
