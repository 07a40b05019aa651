-- `reroute`: a day on one thread, in which each permit that is recalled is applied for again.
use Rattle.std.specs.Prelude.{◌≡◌, ◌⊎◌, ◌≤◌, ◌++◌, ◌∷◌, [], ℕ, true, List, codes, length, Option, Some, None, Result, Ok, Err}
use Rattle.day_text.specs.declared.refusal.Cause.{Cause}
use Rattle.day_text.specs.Days.{DayParts, day_of}
use Rattle.office_words.specs.declared.entry.Entry.{Entry}
use Rattle.day_trial.specs.Rerouted.{IsRerouted, IsTooLong}
use Rattle.report_text.specs.RecallLines.{reroute_text}
use Rattle.permit_program.specs.Command.{Answer, Command, answer_to}

-- the line of a day with more entries than a history may hold
abbrev pub entries_line : List ℕ
entries_line = codes "refused: entries" ++ (10 ∷ [])

-- how a day with more entries than a history may hold is answered
abbrev pub answer_to_entries : Answer
answer_to_entries = record { status = 10; line = entries_line }

-- a history that carries out the commands of a day file, and applies again for each recalled permit, has at most 1,000,000
-- entries
pub record HasRoomFor (file : DayParts) : Type 0 where
  pub history : List Entry
  pub rerouted : IsRerouted file history
  pub short : length history ≤ 1000000

-- the judgement of a day: it is taken where it has room for its entries, and refused where it is too long
abbrev pub JudgesDay : DayParts → Option Answer → Type 0
JudgesDay file judgement = (HasRoomFor file × (None ≡ judgement)) ⊎ (IsTooLong file × (Some answer_to_entries ≡ judgement))

-- the judgement of what bytes are: a day file, or refused as one
abbrev pub JudgesFile : Result DayParts (ℕ × Cause) → Option Answer → Type 0
JudgesFile (Ok file) judgement = JudgesDay file judgement
JudgesFile (Err refused) judgement = Some (answer_to refused) ≡ judgement

-- The promise: the bytes are a day file; the history is one of an office on one thread in which its commands are carried out one
-- after another, and behind each command the caller that no actor is applies again for each permit that this recalled; and the
-- text has a line for each recall, in order, by the answer to that application.
pub record IsReroute (bytes text : List ℕ) : Type 0 where
  pub file : DayParts
  pub read : day_of bytes ≡ Ok file
  pub history : List Entry
  pub rerouted : IsRerouted file history
  pub lines : text ≡ reroute_text (length file.actors) history

-- `reroute`: it reads, leaves no choice of the text, and tells nobody of recalls
abbrev pub reroute : Command
reroute = record {
  reads = true;
  Judges = λ bytes judgement. JudgesFile (day_of bytes) judgement;
  IsOutput = IsReroute;
  LeavesNoChoice = λ bytes. Unit {0};
  recalls = λ bytes text output. None;
}
