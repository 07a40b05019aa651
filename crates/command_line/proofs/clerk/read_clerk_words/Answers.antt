use Rattle.std.proofs.Common.{◌∙◌, map}
use Rattle.std.specs.String.{string_bytes}
use Rattle.clap.specs.Words.{fault_of, matches_of}
use Rattle.command_line.specs.Clerk.{clerk, clerk_asked_of, clerk_task_at}
use Rattle.command_line.proofs.Refusals.{none_asked}
use Rattle.command_line.proofs.clerk.read_clerk_words.Goals as goal

pub returns-clause-usage : goal.returns-clause-usage
unfolding clerk_asked_of
returns-clause-usage c =
    λ usage. none_asked (fault_of clerk (map string_bytes c.args.words.now)) (clerk_task_at (matches_of clerk (map string_bytes c.args.words.now))) c.in-Err.error c.in-Err.ensures.fails (λ m. c.in_default.not-OutOfMemory (c.kind.ensures ∙ m))
