use Rattle.std.proofs.Common.{◌∙◌, sym, ap}
use Rattle.std.specs.Prelude.{option_and_then, option_map}
use Rattle.clap.specs.Words.{found_of}
use Rattle.command_line.specs.Asking.{task_named}
use Rattle.command_line.proofs.Getters.{named_by_text}
use Rattle.command_line.proofs.reading.task_at.Goals as goal

pub returns-in_err-get_str : goal.returns-in_err-get_str
returns-in_err-get_str c = c.from_residual.ensures ∙ ap (λ o. option_and_then task_named (option_map (λ s. s.now) o)) (sym c.in_err-get_str.was) ∙ named_by_text task_named (found_of c.args.matches.now) c.get_str.result c.get_str.ensures

pub returns : goal.returns
returns c = c.task_named.ensures ∙ ap (λ o. option_and_then task_named (option_map (λ s. s.now) o)) (sym c.in_ok-get_str.was) ∙ named_by_text task_named (found_of c.args.matches.now) c.get_str.result c.get_str.ensures
