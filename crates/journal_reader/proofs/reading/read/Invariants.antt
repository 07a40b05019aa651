use Rattle.std.proofs.Common.{◌≡◌, ◌++◌, length}
use Rattle.journal_reader.specs.Formats.{HasJournalIn}
use Rattle.journal_reader.specs.Journals.{front_of}
use Rattle.journal_reader.proofs.reading.read.Given as goal

abbrev pub invariant-lines : goal.invariant-lines
invariant-lines l = record {
  whole : l.bytes ≡ front_of l.format l.list.items ++ l.rest;
  fits : HasJournalIn l.format l.list.items;
}

abbrev pub decreases-lines : goal.decreases-lines
decreases-lines l = length l.rest
