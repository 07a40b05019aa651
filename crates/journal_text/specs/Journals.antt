-- The text of a history, in each format.
use Rattle.std.specs.Prelude.{ℕ, List, [], ◌∷◌, ◌++◌, length, flat_map, codes}
use Rattle.std.specs.Fmt.{decimal}
use Rattle.journal_text.specs.Words.{index, spaced}
use Rattle.journal_text.specs.Entries.{call_words, reply_words}
use Rattle.journal_text.specs.declared.format.Format.{Format}
use Rattle.journal_text.specs.declared.format.Format.TheVariants.{One, Two, Three}
use Rattle.office_words.specs.declared.entry.Entry.{Entry}

-- a line with its line feed
abbrev pub ended : List ℕ → List ℕ
ended line = line ++ (10 ∷ [])

-- CALLER CALL = REPLY, in each format alike
abbrev pub line_of : Entry → List ℕ
line_of e = index e.caller ++ spaced (call_words e.call (codes "=" ∷ reply_words e.reply []))

-- the number of entries behind the word end
abbrev pub end_line : ℕ → List ℕ
end_line n = codes "end " ++ decimal n

-- the first line names the format
abbrev pub first_line : Format → List ℕ
first_line One = codes "permit-journal 1"
first_line Two = codes "permit-journal 2"
first_line Three = codes "permit-journal 3"

-- the first line, a line for each entry, and the end
abbrev pub journal_in : Format → List Entry → List ℕ
journal_in format history =
    ended (first_line format) ++ (flat_map (λ e. ended (line_of e)) history ++ ended (end_line (length history)))

-- the journal of a history, as it is written: in the last format, which has words for all that an office answers
abbrev pub journal_of : List Entry → List ℕ
journal_of history = journal_in Three history
