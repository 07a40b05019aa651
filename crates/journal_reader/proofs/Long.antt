-- A journal has at least five bytes for each entry.
use Rattle.std.proofs.Common.{◌≤◌, ◌*◌, ◌++◌, ◌∷◌, [], ℕ, List, length, ap, arith, length-append}
use Rattle.std.specs.Prelude.{codes}
use Rattle.journal_text.specs.Words.{Words, index, spaced}
use Rattle.journal_text.specs.Entries.{call_words, reply_words}
use Rattle.journal_text.specs.Journals.{end_line, ended, first_line, line_of}
use Rattle.office_words.specs.declared.entry.Call.{Call}
use Rattle.office_words.specs.declared.entry.Call.TheVariants as call
use Rattle.office_words.specs.declared.entry.Entry.{Entry}
use Rattle.journal_reader.specs.Journals.{lines_of}
use Rattle.journal_reader.specs.Laws.{JournalsAreLong}

-- the words of a call begin with one of three letters at least
word_first : (word : List ℕ) (ws : Words) → 3 ≤ length word → 4 ≤ length (spaced (word ∷ ws))
unfolding spaced
word_first word ws long = omega (arith, long, length-append word (spaced ws))

call_long : (c : Call) (ws : Words) → 4 ≤ length (spaced (call_words c ws))
call_long call.Snapshot ws = word_first (codes "snapshot") ws (omega arith)
call_long (call.Submit a p) ws = word_first (codes "submit") _ (omega arith)
call_long (call.Held a) ws = word_first (codes "held") _ (omega arith)
call_long (call.Post posted) ws = word_first (codes "post") _ (omega arith)
call_long (call.Day day) ws = word_first (codes "day") _ (omega arith)
call_long (call.Surrender number) ws = word_first (codes "surrender") _ (omega arith)
call_long (call.Show number) ws = word_first (codes "show") _ (omega arith)

line_long : (e : Entry) → 5 ≤ length (ended (line_of e))
line_long e =
    let words = call_words e.call (codes "=" ∷ reply_words e.reply []) in
    omega (arith, length-append (index e.caller) (spaced words), length-append (line_of e) (10 ∷ []), call_long e.call (codes "=" ∷ reply_words e.reply []))

lines_long : (h : List Entry) → 5 * length h ≤ length (lines_of h)
lines_long [] = omega arith
lines_long (e ∷ h) = omega (arith, lines_long h, line_long e, length-append (ended (line_of e)) (lines_of h))

pub long_journals : JournalsAreLong
long_journals h text (format, (fits, is)) =
    omega (
      arith,
      ap (λ (l : List ℕ). length l) is,
      lines_long h,
      length-append (ended (first_line format)) (lines_of h ++ ended (end_line (length h))),
      length-append (lines_of h) (ended (end_line (length h))),
    )
