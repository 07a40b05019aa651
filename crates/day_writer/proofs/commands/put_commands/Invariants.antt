use Rattle.std.proofs.Common.{◌≡◌, ◌++◌, map, take}
use Rattle.day_writer.specs.Orders.{order_row}
use Rattle.day_writer.specs.Sheets.{parts_of_sheet}
use Rattle.day_writer.specs.Texts.{text_of}
use Rattle.day_writer.proofs.commands.put_commands.Given as goal

abbrev pub invariant-commands : goal.invariant-commands
invariant-commands l = l.page ≡ l.fn.page ++ text_of (map (order_row (parts_of_sheet l.sheet).base l.actors) (take l.i l.commands))
