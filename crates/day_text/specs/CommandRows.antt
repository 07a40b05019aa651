-- Which records of a day file are its commands, and the rows in which they stand.
use Rattle.std.specs.Prelude.{◌≡◌, ◌<◌, ◌+◌, ◌-◌, ℕ, Bool, true, false, List, Option, Some, None, Ok, filter, length, take}
use Rattle.day_text.specs.Days.{DayParts, day_of}
use Rattle.day_text.specs.Fields.{field_of}
use Rattle.day_text.specs.Kinds.{kind_of}
use Rattle.day_text.specs.Records.{Row}
use Rattle.day_text.specs.declared.kind.RecordKind.{RecordKind}
use Rattle.day_text.specs.declared.kind.RecordKind.TheVariants.{Apply, Post, SetDay, Show, Surrender}

-- whether records of this kind are commands
abbrev pub is_command_kind : Option RecordKind → Bool
is_command_kind (Some Apply) = true
is_command_kind (Some Post) = true
is_command_kind (Some SetDay) = true
is_command_kind (Some Surrender) = true
is_command_kind (Some Show) = true
is_command_kind _ = false

-- whether the record is a command
abbrev pub is_command : Row → Bool
is_command fields = is_command_kind (kind_of (field_of fields 0))

-- how many of the records are commands
abbrev pub commands_in : List Row → ℕ
commands_in rows = length (filter is_command rows)

-- The record in this row, counted from 1, is that of the command at a place, counted from 0: so many commands stand in front of it,
-- and with it there is one more.
pub record IsRowOfCommand (rows : List Row) (place row : ℕ) : Type 0 where
  pub before : commands_in (take (row - 1) rows) ≡ place
  pub with_it : commands_in (take row rows) ≡ place + 1

-- the bytes are a day file, and it has a command at this place, counted from 0
pub record HasCommandAt (bytes : List ℕ) (place : ℕ) : Type 0 where
  pub file : DayParts
  pub read : day_of bytes ≡ Ok file
  pub there : place < length file.commands

-- a command stands in one row alone
abbrev pub RowsOfCommandsAreOne : Type 0
RowsOfCommandsAreOne = (rows : List Row) (place row other : ℕ) → IsRowOfCommand rows place row → IsRowOfCommand rows place other → other ≡ row
