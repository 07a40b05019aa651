-- What follows of a run: the statuses that come, what a listener has heard of a day, and that one actor's history is the serial
-- one.
use Rattle.std.specs.Prelude.{◌≡◌, ◌⊎◌, ℕ, List, [], ◌∷◌, ◌++◌, Option, Some}
use Rattle.std.specs.Io.KnownBytes.{Appends}
use Rattle.notice_desk.specs.Lines.{recall_lines}
use Rattle.notice_desk.specs.Standings.{new_standing}
use Rattle.notice_desk.specs.declared.notice.Recall.{Recall}
use Rattle.notice_desk.specs.declared.notice.Whom.TheVariants as whom
use Rattle.reroute_desk.specs.RecallLists.{recalls_in}
use Rattle.day_trial.specs.Serial.{IsSerial}
use Rattle.permit_program.specs.Headline.{Headline}
use Rattle.permit_program.specs.Command.{Answer}
use Rattle.permit_program.specs.Commands.{command_of}
use Rattle.permit_program.specs.Day.{HasFewActors}
use Rattle.permit_program.specs.Runs.{AsksForDay, DeskAt, IsRun, Outside, TookAll, permit_cli}
use Rattle.command_line.specs.declared.asked.Asked.{Asked}

-- Every status that comes.
abbrev pub IsStatus : ℕ → Type 0
IsStatus status =
    (status ≡ 0) ⊎ (status ≡ 2) ⊎ (status ≡ 3) ⊎ (status ≡ 4) ⊎ (status ≡ 5) ⊎ (status ≡ 6) ⊎ (status ≡ 7) ⊎ (status ≡ 8)
    ⊎ (status ≡ 9) ⊎ (status ≡ 10)

-- No run ends with another one.
abbrev pub EveryStatusIsNamed : Type 0 → Type 0 → Type 0
EveryStatusIsNamed S K = (asked : Option Asked) (before after : Outside S K) (status : ℕ) → IsRun permit_cli asked before after status
    → IsStatus status

-- A command judges bytes in one way alone.
abbrev pub CommandsJudgeOnce : Type 0
CommandsJudgeOnce = (asked : Asked) (bytes : List ℕ) (a b : Option Answer) → (command_of asked).Judges bytes a → (command_of asked).Judges bytes b → a ≡ b

-- Status 8 comes only where a day is asked for.
abbrev pub OnlyDaysTell : Type 0 → Type 0 → Type 0
OnlyDaysTell S K = (asked : Option Asked) (before after : Outside S K) → IsRun permit_cli asked before after 8 → AsksForDay asked

-- one is told of recalls, of all of them: it is through with none, and its object wrote this text
pub record HasListener (text : List ℕ) (desk : DeskAt) : Type 0 where
  pub told : Option (List Recall)
  pub standing : desk.standings ≡ new_standing whom.All told ∷ []
  pub wrote : desk.texts ≡ Some text ∷ []

-- The journal of a day was written whole, and behind the listener's text stand the lines of all recalls of its history, one
-- each, in order.
pub record HeardAll {S K : Type 0} (text : List ℕ) (before after : Outside S K) : Type 0 where
  pub bytes : List ℕ
  pub journal : List ℕ
  pub took : TookAll before.source after.source bytes
  pub headline : Headline bytes journal
  pub wrote : Appends before.sink.held after.sink.held journal
  pub lines : after.desk.texts ≡ Some (text ++ recall_lines (recalls_in headline.file.base headline.history)) ∷ []

-- so it is after each run of a day that ends with status 0
abbrev pub ListenersHearAll : Type 0 → Type 0 → Type 0
ListenersHearAll S K = (text : List ℕ) (asked : Option Asked) (before after : Outside S K) → AsksForDay asked
    → HasListener text before.desk → IsRun permit_cli asked before after 0 → HeardAll text before after

-- The history of a day of at most one actor is the one in which the commands of the file are carried out one after another, on
-- one thread.
abbrev pub LoneDaysAreSerial : Type 0
LoneDaysAreSerial =
    (bytes journal : List ℕ) (headline : Headline bytes journal) → HasFewActors bytes → IsSerial headline.file headline.history
