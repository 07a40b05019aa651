-- `day`: the journal of an office's day, and the recalls of its history.
use Rattle.std.specs.Prelude.{◌≡◌, ◌≤◌, ℕ, true, List, length, Some, Ok}
use Rattle.day_text.specs.Days.{DayParts, day_of}
use Rattle.reroute_desk.specs.RecallLists.{recalls_in}
use Rattle.permit_program.specs.Headline.{Headline}
use Rattle.permit_program.specs.Command.{Command, judged_by, refusal_in}

-- the bytes have at most one actor, where they are a day file
abbrev pub HasFewActors : List ℕ → Type 0
HasFewActors bytes = (file : DayParts) → day_of bytes ≡ Ok file → length file.actors ≤ 1

-- The promise is the headline. It leaves no choice where there is at most one actor; the turns of more can come between one
-- another. All recalls of the history are told.
abbrev pub day : Command
day = record {
  reads = true;
  Judges = judged_by (λ bytes. refusal_in (day_of bytes));
  IsOutput = Headline;
  LeavesNoChoice = HasFewActors;
  recalls = λ bytes text headline. Some (recalls_in headline.file.base headline.history);
}
