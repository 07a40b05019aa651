use Rattle.std.proofs.Common.{◌∙◌, map}
use Rattle.std.specs.String.{string_bytes}
use Rattle.clap.specs.Words.{fault_of, matches_of}
use Rattle.command_line.specs.Asking.{asked_in, asked_of}
use Rattle.command_line.specs.Office.{office}
use Rattle.command_line.proofs.Refusals.{none_asked}
use Rattle.command_line.proofs.reading.read_words.Goals as goal

pub returns-clause-usage : goal.returns-clause-usage
unfolding asked_of
returns-clause-usage c =
    λ usage. none_asked (fault_of office (map string_bytes c.args.words.now)) (asked_in (matches_of office (map string_bytes c.args.words.now))) c.in-Err.error c.in-Err.ensures.fails (λ m. c.in_default.not-OutOfMemory (c.kind.ensures ∙ m))
