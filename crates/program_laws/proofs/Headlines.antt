-- The journal of a day file is the journal of one history, which is read back.
use Rattle.std.proofs.Common.{List, ℕ, sym, subst, ◌∙◌}
use Rattle.journal_reader.specs.Journals.{IsJournalRead}
use Rattle.program_laws.specs.Histories.{IsOfDay}
use Rattle.program_laws.proofs.ReadingBack.{histories_fit, journals_have_one_history, journals_read_back}
use Rattle.permit_program.specs.Headline.{Headline}
use Rattle.program_laws.specs.Laws.{HeadlineFits, HeadlineReadsBack, TextHasOneHistory}
use Rattle.program_laws.specs.Whole.{DayJournalsAreWhole}
use Rattle.clerk_program.proofs.Written.{written_whole}

of_day : (bytes text : List ℕ) (h : Headline bytes text) → IsOfDay bytes h.history
of_day bytes text h = record { file = h.file; read = h.read; legal = h.legal; commands = h.commands; callers = h.callers }

pub headline_fits : HeadlineFits
headline_fits bytes text h = histories_fit bytes h.history (of_day bytes text h)

pub headline_reads_back : HeadlineReadsBack
headline_reads_back bytes text h answer is =
    journals_read_back bytes h.history answer (of_day bytes text h) (subst (λ (t : List ℕ). IsJournalRead t answer) h.journal is)

pub text_has_one_history : TextHasOneHistory
text_has_one_history bytes other text h k =
    journals_have_one_history bytes other h.history k.history (of_day bytes text h) (of_day other text k) (sym h.journal ∙ k.journal)

-- and the journal is called whole
pub journal_is_whole : DayJournalsAreWhole
journal_is_whole day journal h sizes = written_whole day journal h (headline_fits day journal h) sizes
