-- The scripts of a day file may be carried out.
use Rattle.std.proofs.Common.{ℕ, List, All, Vec, length, get_or, ap, sym, subst, arith}
use Rattle.std.specs.Global.{Global}
use Rattle.day_text.specs.Days.{DayParts}
use Rattle.day_text.specs.Laws.{IsDayFile}
use Rattle.day_text.specs.Scripts.{AreScripts}
use Rattle.day_text.proofs.Dealt.{script_few, script_sound}
use Rattle.office_words.specs.Commands.{MayCarryOut}
use Rattle.office_words.specs.declared.entry.Command.{Command}
use Rattle.day_run.specs.Workers.{AreShort, AreSound}

-- the commands of a sound file may be carried out
module _ (file : DayParts) (is_file : IsDayFile file) (scripts : List (Vec Command Global)) (are : AreScripts scripts file.commands) where
  pub scripts_sound : AreSound file.base scripts
  scripts_sound i s near = subst (All (MayCarryOut file.base)) (sym (are i s near))
      (script_sound file is_file i)

  pub scripts_short : AreShort scripts
  scripts_short i s near = omega (arith, (get_or scripts i s).ok.0, ap {B = ℕ} length (are i s near), script_few file is_file i)
