use Rattle.std.proofs.Common.{refl}
use Rattle.clap.proofs.OnLiterals.{clap_on_literals}
use Rattle.command_line.specs.Asking.{asked_of}
use Rattle.command_line.proofs.laws.each_word_asks_for_its_task.Goals as goal

pub returns : goal.returns
unfolding clap_on_literals asked_of
returns c = record { check = refl; day = refl; make = refl; trial = refl; audit = refl; design = refl; convoy = refl; reroute = refl }
