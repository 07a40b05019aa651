-- What every day file keeps.
use Rattle.std.specs.Prelude.{◌<◌, ◌≤◌, length, All}
use Rattle.day_text.specs.Days.{DayParts}
use Rattle.day_text.specs.Fleets.{most_actors}
use Rattle.office_words.specs.Commands.{MayCarryOut}

-- there are few enough actors and commands, each command comes from an actor who is there, and each application is sound for
-- the roads and the trucks of the file
pub record IsDayFile (file : DayParts) : Type 0 where
  pub few_actors : length file.actors ≤ most_actors
  pub few_commands : length file.commands ≤ 4096
  pub callers : All (λ o. o.actor < length file.actors) file.commands
  pub sound : All (λ o. MayCarryOut file.base o.command) file.commands
