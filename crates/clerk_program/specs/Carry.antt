-- `carry`: the file of the next day, behind a journal of all of the day whose file stands behind it.
use Rattle.std.specs.Prelude.{◌≡◌, ◌≤◌, ◌+◌, ◌++◌, ◌∷◌, [], ℕ, Bool, true, nat_le, if◌then◌else◌, List, length, codes, Option, Some, None, Ok}
use Rattle.std.specs.Fmt.{decimal}
use Rattle.day_text.specs.Days.{day_of}
use Rattle.day_writer.specs.Rows.{day_text_of}
use Rattle.next_day.specs.Laws.{AreThoseInForce, BeginsWithWhatStood, IsNextDay, numbers_standing}
use Rattle.next_day.specs.NextDay.{next_day}
use Rattle.permit_program.specs.Command.{Answer, Command}
use Rattle.permit_program.specs.Runs.{most_bytes}
use Rattle.clerk_program.specs.WholeJournals.{GoesOn, IsWholeJournal, JudgesWhole, answer_to_bytes}

-- how a text is judged that is to be a day file: it is taken where it is not too long for one
abbrev pub judged_by_length : List ℕ → Option Answer
judged_by_length text = if nat_le (length text) most_bytes then None else Some answer_to_bytes

-- a whole journal goes on with the text of the next day, which may be too long
abbrev pub IsCarriedOver : Bool → GoesOn
IsCarriedOver in_force file history judgement = judged_by_length (day_text_of (next_day in_force file history)) ≡ judgement

-- The promise: the bytes are a whole journal. The text is a day file, that of the next day behind its history: on the day that the
-- history left, with the roads as they were in force, and with the permits that are in force, no others. And so the next day begins:
-- in the one history in which its commands are carried out one after another, each permit that stood is issued anew, the k-th as
-- number k at version 0 with the routes that it had.
pub record IsCarried (in_force : Bool) (bytes text : List ℕ) : Type 0 where
  pub whole : IsWholeJournal bytes
  pub written : text ≡ day_text_of (next_day in_force whole.file whole.history)
  pub fits : length text ≤ most_bytes
  pub read_again : day_of text ≡ Ok (next_day in_force whole.file whole.history)
  pub left : IsNextDay in_force whole.file whole.history
  pub permits : AreThoseInForce whole.file.day whole.history (numbers_standing whole.file whole.history)
  pub begins : BeginsWithWhatStood in_force whole.file whole.history

-- `carry`: it reads, leaves no choice of the text, and tells nobody of recalls
abbrev pub carry : Bool → Command
carry in_force = record {
  reads = true;
  Judges = JudgesWhole (IsCarriedOver in_force);
  IsOutput = IsCarried in_force;
  LeavesNoChoice = λ bytes. Unit {0};
  recalls = λ bytes text output. None;
}

-- the line of a permit that is carried: its number, and that on the next day
abbrev pub carried_line : ℕ → ℕ → List ℕ
carried_line old new = codes "carried " ++ (decimal old ++ (32 ∷ (decimal new ++ (10 ∷ []))))

-- the lines of permits of these numbers, which are numbered anew behind `last`
abbrev pub carried_lines : ℕ → List ℕ → List ℕ
carried_lines last [] = []
carried_lines last (old ∷ more) = carried_line old (last + 1) ++ carried_lines (last + 1) more

-- the lines that tell of the permits which bytes carry over
pub record AreCarriedLines (bytes lines : List ℕ) : Type 0 where
  pub whole : IsWholeJournal bytes
  pub each : lines ≡ carried_lines 0 (numbers_standing whole.file whole.history)
