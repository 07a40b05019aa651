use Rattle.std.proofs.Common.{◌∙◌, sym}
use Rattle.journal_reader.proofs.Whole.{line_found}
use Rattle.journal_reader.proofs.entries.entry.Goals as goal

pub returns-then-has_words_for-clause-sound : goal.returns-then-has_words_for-clause-sound
returns-then-has_words_for-clause-sound c =
    let found = line_found c.args.line.now c.in-Some.entry (rw c.in-Some.is at c.in_ok-entry.ensures.sound) in
    (found.0, (found.1, sym c.has_words_for.ensures ∙ c.if-has_words_for.true))
