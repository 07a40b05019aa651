-- What is known of a day that is carried over.
use Rattle.std.specs.Prelude.{◌≡◌, Bool, length}
use Rattle.std.specs.Arc.{arc_value}
use Rattle.office_core.specs.Machine.{IsLegal}
use Rattle.journal_audit.specs.Verdicts.{IsLeftBy}
use Rattle.journal_whole.specs.Wholes.{IsWhole}
use Rattle.day_writer.specs.Rows.{day_text_of}
use Rattle.day_writer.specs.Writable.{IsWritable}
use Rattle.next_day.specs.Laws.{numbers_standing}
use Rattle.next_day.specs.Next.{IsNext}
use Rattle.next_day.specs.NextDay.{next_day}
use Rattle.next_day.specs.declared.going_on.NextDay.{NextDay}
use Rattle.clerk_program.specs.declared.carry.Carried.{Carried}
use Rattle.clerk_program.specs.declared.whole_day.WholeDay.{WholeDay}
use Rattle.clerk_program.specs.Carry.{carried_lines}
use Rattle.clerk_program.specs.Judging.{file_of}

-- the day's file can be written, its history is legal and one of all its commands, and this is what its office keeps behind it
pub record IsReadyToCarry (d : WholeDay) : Type 0 where
  pub writable : IsWritable (file_of d)
  pub legal : IsLegal (arc_value d.base) d.day d.history.items
  pub whole : IsWhole (length d.actors.items) d.commands.items d.history.items
  pub left : IsLeftBy (arc_value d.base) d.day d.history.items d.office

-- what goes on behind what its office keeps and its history
abbrev pub GoesOn : Bool → WholeDay → NextDay → Type 0
GoesOn in_force d next = IsNext in_force (length (arc_value d.base).fleet) d.office.machine d.history.items next

-- the text is that of the next day behind it, and the lines are those of the permits that go on
pub record IsCarriedDay (in_force : Bool) (d : WholeDay) (carried : Carried) : Type 0 where
  pub text : carried.text.items ≡ day_text_of (next_day in_force (file_of d) d.history.items)
  pub lines : carried.lines.items ≡ carried_lines 0 (numbers_standing (file_of d) d.history.items)
