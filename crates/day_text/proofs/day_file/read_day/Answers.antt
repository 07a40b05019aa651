use Rattle.std.proofs.Common.{ap, subst, sym}
use Rattle.day_text.specs.Causes.{◌>>=◌, Tells}
use Rattle.day_text.specs.Days.{ended_day}
use Rattle.day_text.proofs.EveryDay.{told_keeps}
use Rattle.day_text.proofs.day_file.read_day.Goals as goal

pub returns-clause-keeps : goal.returns-clause-keeps
returns-clause-keeps c =
    told_keeps c.args.bytes.now c.finish.result (subst (λ told. Tells c.finish.result told) (sym (ap (λ r. r >>= ended_day) c.in_ok-row.ensures)) c.finish.ensures)
