-- What may stand in a journal of each format.
use Rattle.std.specs.Prelude.{◌≡◌, true, List, Option, Some, None, if◌then◌else◌}
use Rattle.std.specs.List.{AllByRecursion}
use Rattle.office_words.specs.declared.entry.Entry.{Entry}
use Rattle.journal_text.specs.declared.format.Format.{Format}
use Rattle.journal_text.specs.Formats.{is_said_in}
use Rattle.journal_reader.specs.Fits.{FitsEntry}

-- an entry that may stand in a journal of this format
abbrev pub FitsIn : Format → Entry → Type 0
FitsIn format e = FitsEntry e × (is_said_in format e ≡ true)

-- a history that has a journal in this format
abbrev pub HasJournalIn : Format → List Entry → Type 0
HasJournalIn format history = AllByRecursion (FitsIn format) history

-- the entry, if the format has words for it
abbrev pub if_said : Format → Option Entry → Option Entry
if_said format None = None
if_said format (Some e) = if is_said_in format e then Some e else None
