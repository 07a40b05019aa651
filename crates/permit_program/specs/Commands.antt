-- The commands of the program: what the words of a command line ask for.
use Rattle.command_line.specs.declared.asked.Asked.{Asked}
use Rattle.command_line.specs.declared.asked.Options.{Options}
use Rattle.command_line.specs.declared.asked.Task.{Task}
use Rattle.command_line.specs.declared.asked.Task.TheVariants as task
use Rattle.permit_program.specs.Command.{Command}
use Rattle.permit_program.specs.Reports.{check, design}
use Rattle.permit_program.specs.Day.{day}
use Rattle.permit_program.specs.Made.{make, trial}
use Rattle.permit_program.specs.Audit.{audit}
use Rattle.permit_program.specs.Convoy.{convoy}
use Rattle.permit_program.specs.Reroute.{reroute}

-- the command of a task; the options are read with each, and used by three
abbrev pub command_by : Task → Options → Command
command_by task.Check options = check
command_by task.Day options = day
command_by task.Make options = make options.seed options.size
command_by task.Trial options = trial options.seed options.size
command_by task.Audit options = audit
command_by task.Design options = design
command_by task.Convoy options = convoy options.trucks options.gap
command_by task.Reroute options = reroute

-- the command that the words ask for
abbrev pub command_of : Asked → Command
command_of asked = command_by asked.task asked.options
