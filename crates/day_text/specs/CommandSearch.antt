-- The search for the record of a command.
use Rattle.std.specs.Prelude.{ℕ, ◌-◌, ◌==◌, Bool, true, false, if◌then◌else◌, Result, Ok, Err}
use Rattle.day_text.specs.CommandRows.{is_command}
use Rattle.day_text.specs.Records.{Row}
use Rattle.day_text.specs.declared.command_rows.CommandSearch.{CommandSearch}
use Rattle.day_text.specs.declared.refusal.Cause.{Cause}
use Rattle.day_text.specs.declared.refusal.Cause.TheVariants as why
use Rattle.day_text.specs.declared.refusal.RecordCause.TheVariants as bad

-- what a command does to a search: it is the one looked for where no other is to come before it, and is then refused
abbrev pub searched : Bool → ℕ → Result CommandSearch Cause
searched true left = if left == 0 then Err (why.Bad bad.Kind) else Ok (record { left = left - 1 })
searched false left = Ok (record { left = left })

-- where a record leads a search
abbrev pub search_on : CommandSearch → Row → Result CommandSearch Cause
search_on s fields = searched (is_command fields) s.left
