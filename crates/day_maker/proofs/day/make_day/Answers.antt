use Rattle.std.proofs.Common.{◌∙◌, refl}
use Rattle.day_maker.specs.Made.{made_day}
use Rattle.day_maker.proofs.day.make_day.Goals as goal

pub returns-in_ok-into_text-in-Ok : goal.returns-in_ok-into_text-in-Ok
unfolding made_day
returns-in_ok-into_text-in-Ok c = c.in_ok-into_text-in-Ok.ensures ∙ rw (c.in-Ok.ensures, c.new-page.ensures) refl
