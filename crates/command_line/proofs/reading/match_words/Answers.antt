use Rattle.clap.specs.Words.{IsParsedFrom}
use Rattle.command_line.specs.Asking.{HasNumbers}
use Rattle.command_line.proofs.Numbers.{has_numbers, if_ok}
use Rattle.command_line.proofs.reading.match_words.Goals as goal

pub returns-clause-numbers : goal.returns-clause-numbers
returns-clause-numbers c = if_ok c.try_get_matches_from.result (IsParsedFrom c.in_ok-office.office) HasNumbers (λ m p. has_numbers c.in_ok-office.office m c.in_ok-office.ensures p) c.try_get_matches_from.ensures.parsed
