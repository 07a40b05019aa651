-- What a completed day writes is called whole: the journal of a history is cut at its end, and is read as that history.
use Rattle.std.proofs.Common.{◌≡◌, ◌∙◌, ◌∷◌, ◌++◌, [], ℕ, Bool, true, false, List, Some, None, length, map, take, drop, refl, ap, sym, subst, inl, codes, append_assoc, take-append-drop}
use Rattle.std.specs.Fmt.{digits}
use Rattle.std.specs.List.{AllByRecursion}
use Rattle.std.proofs.lemmas.Slice.Eq.{bytes_eq-Decides}
use Rattle.office_words.specs.declared.entry.Entry.{Entry}
use Rattle.journal_text.specs.Journals.{end_line, ended, first_line, journal_of, line_of}
use Rattle.journal_text.specs.declared.format.Format.TheVariants.{Three}
use Rattle.journal_reader.specs.Cuts.{IsCutBehindEnd, IsOther, begins_end}
use Rattle.journal_reader.specs.Fits.{FitsEntry, FitsHistory}
use Rattle.journal_reader.specs.Journals.{IsJournalOf, lines_of, lines_text}
use Rattle.journal_reader.specs.Readers.{entry_of}
use Rattle.journal_reader.specs.Words.{number_spelled, place_of}
use Rattle.journal_reader.proofs.Answers.{has_journal}
use Rattle.journal_reader.proofs.Spelled.{entry_again}
use Rattle.journal_reader.proofs.Whole.{end_is_line, entry_line, header_is_line}
use Rattle.day_run.specs.Served.{IsServed}
use Rattle.permit_program.specs.Headline.{Headline}
use Rattle.clerk_program.specs.Certify.{certify, whole_history_line}
use Rattle.clerk_program.specs.WholeJournals.{HasSizes}
use Rattle.clerk_program.proofs.Certificates.{taken_where_promised}

-- a line that begins with `end ` is no entry's
no_entry : (more : List ℕ) → entry_of (codes "end " ++ more) ≡ None
unfolding entry_of place_of number_spelled digits
no_entry more = refl

other_line : (e : Entry) → FitsEntry e → begins_end (line_of e) ≡ false
other_line e fits = by (begins_end (line_of e)) refl
  where
    by : (b : Bool) → begins_end (line_of e) ≡ b → b ≡ false
    by false is = refl
    by true is =
        let front : take 4 (line_of e) ≡ codes "end " = sym ((bytes_eq-Decides (codes "end ") (take 4 (line_of e))).0 is) in
        let whole : line_of e ≡ codes "end " ++ drop 4 (line_of e) = sym (take-append-drop 4 (line_of e)) ∙ ap (λ l. l ++ drop 4 (line_of e)) front in
        let none : Some e ≡ None = sym (entry_again e fits) ∙ (ap entry_of whole ∙ no_entry (drop 4 (line_of e))) in
        cc

other_lines : (h : List Entry) → FitsHistory h → AllByRecursion IsOther (map line_of h)
other_lines [] fits = tt
other_lines (e ∷ h) (fit, fits) = ((entry_line e fit, other_line e fit), other_lines h fits)

lines_are : (h : List Entry) → lines_of h ≡ lines_text (map line_of h)
lines_are [] = refl
lines_are (e ∷ h) = ap (λ l. ended (line_of e) ++ l) (lines_are h)

cut_at_end : (h : List Entry) (rest : List ℕ) → FitsHistory h → IsCutBehindEnd (journal_of h ++ rest) (journal_of h) rest
cut_at_end h rest fits = record {
  whole = refl;
  before = first_line Three ∷ map line_of h;
  others = ((header_is_line Three, refl), other_lines h fits);
  last = end_line (length h);
  line = end_is_line (length h);
  end = inl (
    refl,
    ap (λ l. ended (first_line Three) ++ (l ++ ended (end_line (length h)))) (lines_are h)
        ∙ sym (append_assoc (ended (first_line Three)) (lines_text (map line_of h)) (ended (end_line (length h)))),
  );
}

pub written_whole : (day journal : List ℕ) (h : Headline day journal) → FitsHistory h.history → HasSizes journal day → certify.Judges (journal ++ day) None
written_whole day journal h fits sizes =
    let read : IsJournalOf h.history journal = (Three, (has_journal h.history fits, h.journal)) in
    let served : IsServed h.file h.history = record { legal = h.legal; promises = h.promises; commands = h.commands; callers = h.callers; memory = h.memory } in
    (taken_where_promised (journal ++ day)).1 (
      whole_history_line (length h.history),
      record {
        whole = record {
          journal = journal;
          behind = day;
          cut = subst (λ (j : List ℕ). IsCutBehindEnd (j ++ day) j day) (sym h.journal) (cut_at_end h.history day fits);
          sizes = sizes;
          history = h.history;
          read = read;
          file = h.file;
          day_read = h.read;
          served = served;
        };
        line = refl;
      },
    )
