use Rattle.std.proofs.Common.{◌∙◌, refl}
use Rattle.day_writer.specs.Rows.{day_text_of}
use Rattle.day_writer.proofs.write.write_day.Goals as goal

pub returns-in_ok-into_text-in-Ok : goal.returns-in_ok-into_text-in-Ok
unfolding day_text_of
returns-in_ok-into_text-in-Ok c = record { text = c.in_ok-into_text-in-Ok.ensures ∙ rw (c.in-Ok.ensures, c.new-page.ensures) refl }
