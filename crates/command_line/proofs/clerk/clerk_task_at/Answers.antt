use Rattle.std.proofs.Common.{◌∙◌, sym, ap}
use Rattle.std.specs.Prelude.{option_and_then, option_map}
use Rattle.clap.specs.Words.{found_of, rows_of}
use Rattle.command_line.specs.Clerk.{clerk_task_named, is_flagged}
use Rattle.command_line.proofs.Getters.{named_by_text}
use Rattle.command_line.proofs.clerk.clerk_task_at.Goals as goal

pub returns-in_err-get_str : goal.returns-in_err-get_str
returns-in_err-get_str c =
    let named = clerk_task_named (is_flagged (rows_of (found_of c.args.matches.now))) in
    c.from_residual.ensures ∙ ap (λ o. option_and_then named (option_map (λ s. s.now) o)) (sym c.in_err-get_str.was) ∙ named_by_text named (found_of c.args.matches.now) c.get_str.result c.get_str.ensures

pub returns : goal.returns
returns c =
    let named = clerk_task_named (is_flagged (rows_of (found_of c.args.matches.now))) in
    c.clerk_task_named.ensures ∙ ap (λ b. clerk_task_named b c.in_ok-get_str.field-0.now) c.is_flagged.ensures
    ∙ ap (λ o. option_and_then named (option_map (λ s. s.now) o)) (sym c.in_ok-get_str.was) ∙ named_by_text named (found_of c.args.matches.now) c.get_str.result c.get_str.ensures
