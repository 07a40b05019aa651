use Rattle.day_text.proofs.CommandRows.{never_ends, row_told}
use Rattle.day_text.proofs.command_rows.row_of_command.Goals as goal

pub unreachable-requires : goal.unreachable-requires
unreachable-requires c =
    let has = c.requires in
    absurd (never_ends c.args.bytes.now has.file has.read c.args.place has.there c.in-Ok.field-0 c.in-Ok.ensures)

pub returns-in-Err-Refused : goal.returns-in-Err-Refused
returns-in-Err-Refused c =
    let has = c.requires in
    row_told c.args.bytes.now has.file has.read c.args.place has.there c.in-Err-Refused.field-0 c.in-Err-Refused.row c.in-Err-Refused.field-0-1 c.in-Err-Refused.field-0-is c.in-Err-Refused.ensures
