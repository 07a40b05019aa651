-- The clerk's program, as a value, and what standard error is told.
use Rattle.std.specs.Prelude.{◌≡◌, ℕ, ◌+◌, ◌++◌, ◌∷◌, [], Bool, List, Option, Some, codes}
use Rattle.command_line.specs.declared.asked.ClerkTask.{ClerkTask}
use Rattle.command_line.specs.declared.asked.ClerkTask.TheVariants as task
use Rattle.permit_program.specs.Command.{Command}
use Rattle.permit_program.specs.Runs.{Outside, Program, SinkAt, TookAll, WroteLine, most_bytes}
use Rattle.clerk_program.specs.Carry.{AreCarriedLines, carry}
use Rattle.clerk_program.specs.Certify.{certify}
use Rattle.clerk_program.specs.WholeJournals.{most_journal}

-- the command of a task
abbrev pub clerk_command_of : ClerkTask → Command
clerk_command_of task.Certify = certify
clerk_command_of (task.Carry in_force) = carry in_force

-- the line that answers words that ask for nothing
abbrev pub clerk_usage_line : List ℕ
clerk_usage_line = codes "usage: permit_clerk certify|carry [--in-force]" ++ (10 ∷ [])

-- the clerk's program: it reads a journal and a day file behind it
abbrev pub permit_clerk : Program ClerkTask
permit_clerk = record { most = most_journal + most_bytes; usage = clerk_usage_line; command_of = clerk_command_of }

-- a day was carried over: some bytes were taken, all that were left, and the lines of their permits were told, whole unless that sink
-- failed
pub record ToldCarried {S K T : Type 0} (before after : Outside S K) (told_before told_after : SinkAt T) : Type 0 where
  pub bytes : List ℕ
  pub lines : List ℕ
  pub took : TookAll before.source after.source bytes
  pub carried : AreCarriedLines bytes lines
  pub told : WroteLine lines told_before told_after

-- words that ask to carry, and a status of 0
abbrev pub HasCarried : Option ClerkTask → ℕ → Type 0
HasCarried asked status = ((in_force : Bool) × (asked ≡ Some (task.Carry in_force))) × (status ≡ 0)

-- what standard error is told by a run: the lines of the permits that were carried over, and by any other run nothing
pub record TellsCarried {S K T : Type 0} (asked : Option ClerkTask) (before after : Outside S K) (status : ℕ) (told_before told_after : SinkAt T)
    : Type 0
  where
    pub carried : HasCarried asked status → ToldCarried before after told_before told_after
    pub silent : (HasCarried asked status → ⊥) → told_after ≡ told_before
