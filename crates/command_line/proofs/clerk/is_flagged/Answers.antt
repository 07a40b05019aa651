use Rattle.std.proofs.Common.{◌∙◌, sym, ap, codes}
use Rattle.std.specs.Prelude.{option_map}
use Rattle.clap.specs.Words.{found_of}
use Rattle.command_line.specs.Clerk.{is_true_text}
use Rattle.command_line.proofs.Getters.{text_read}
use Rattle.command_line.proofs.clerk.is_flagged.Goals as goal

pub returns-in-Some : goal.returns-in-Some
returns-in-Some c = c.eq.ensures ∙ ap is_true_text (ap (option_map (λ s. s.now)) (sym c.in-Some.is) ∙ text_read (found_of c.args.matches.now) (codes "in-force") c.get_str.result c.get_str.ensures)

pub returns-in-None : goal.returns-in-None
returns-in-None c = ap is_true_text (ap (option_map (λ s. s.now)) (sym c.in-None.is) ∙ text_read (found_of c.args.matches.now) (codes "in-force") c.get_str.result c.get_str.ensures)
