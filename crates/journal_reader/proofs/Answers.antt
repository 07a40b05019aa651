-- A text has one answer.
use Rattle.std.proofs.Common.{◌≡◌, ◌≢◌, ◌∙◌, ◌<◌, ◌+◌, ◌∷◌, ◌++◌, [], ℕ, List, refl, ap, sym, subst, arith, length, append_assoc, inl, inr, ◌⊎◌}
use Rattle.std.specs.Prelude.{Result, Ok, Err}
use Rattle.std.specs.List.{AllByRecursion}
use Rattle.std.proofs.lemmas.Bool.{cases_order}
use Rattle.office_words.specs.declared.entry.Entry.{Entry}
use Rattle.journal_text.specs.Journals.{ended, journal_of}
use Rattle.journal_text.specs.declared.format.Format.TheVariants.{Three}
use Rattle.journal_reader.specs.Fits.{FitsHistory}
use Rattle.journal_reader.specs.Formats.{HasJournalIn}
use Rattle.journal_reader.specs.Journals.{IsJournalRead, IsBadLine, IsBadNext, IsJournalOf, IsLine, lines_text}
use Rattle.journal_reader.specs.declared.refusal.JournalRefusal.{JournalRefusal}
use Rattle.journal_reader.specs.declared.refusal.JournalRefusal.TheVariants as refusal
use Rattle.journal_reader.proofs.Whole.{first_lines, no_feed, one_history}

-- no journal has a bad line
none_is_bad : (h : List Entry) (text : List ℕ) (row : ℕ) → IsJournalOf h text → IsBadLine text row → ⊥
none_is_bad h text row (f, (fits, is)) b = by b.bad
  where
    by : IsBadNext (lines_text b.before) b.rest → ⊥
    by (inl (clean, none)) = none h (f, (fits, sym b.whole ∙ is))
    by (inr (line, more, clean, next, none)) =
        none (h, more, (f, (fits, append_assoc (lines_text b.before) (ended line) more ∙ (ap (λ t. lines_text b.before ++ t) (sym next) ∙ (sym b.whole ∙ is)))))

-- of two beginnings of a text in lines, the longer one goes on with the line that follows the shorter one
record GoesOn (xs ys : List (List ℕ)) (p : List ℕ) : Type 0 where
  line : List ℕ
  more : List ℕ
  rest : List ℕ
  clean : IsLine line
  next : p ≡ ended line ++ more
  on : lines_text ys ≡ lines_text xs ++ (ended line ++ rest)

goes_on : (xs ys : List (List ℕ)) (p q : List ℕ) → AllByRecursion IsLine xs → AllByRecursion IsLine ys → lines_text xs ++ p ≡ lines_text ys ++ q → length xs < length ys → GoesOn xs ys p
goes_on [] [] p q h k e low = absurd (omega (arith, low))
goes_on [] (y ∷ ys) p q h (k, ks) e low = record { line = y; more = lines_text ys ++ q; rest = lines_text ys; clean = k; next = e ∙ append_assoc (ended y) (lines_text ys) q; on = refl }
goes_on (x ∷ xs) [] p q h k e low = absurd (omega (arith, low))
goes_on (x ∷ xs) (y ∷ ys) p q (h, hs) (k, ks) e low =
    let two = first_lines x y (lines_text xs ++ p) (lines_text ys ++ q) h k (sym (append_assoc (ended x) (lines_text xs) p) ∙ (e ∙ append_assoc (ended y) (lines_text ys) q)) in
    let g = goes_on xs ys p q hs ks two.1 (omega (arith, low)) in
    record {
      line = g.line;
      more = g.more;
      rest = g.rest;
      clean = g.clean;
      next = g.next;
      on = ap (λ (t : List ℕ). ended t ++ lines_text ys) (sym two.0) ∙ (ap (λ t. ended x ++ t) g.on ∙ sym (append_assoc (ended x) (lines_text xs) (ended g.line ++ g.rest)));
    }

not_before : (text : List ℕ) (row other : ℕ) (b : IsBadLine text row) (c : IsBadLine text other) → length b.before < length c.before → ⊥
not_before text row other b c low = by b.bad
  where
    g : GoesOn b.before c.before b.rest
    g = goes_on b.before c.before b.rest c.rest b.lines c.lines (sym b.whole ∙ c.whole) low

    by : IsBadNext (lines_text b.before) b.rest → ⊥
    by (inl (clean, none)) = no_feed g.line g.more (subst (λ (t : List ℕ). IsLine t) g.next clean)
    by (inr (line, more, clean, next, none)) =
        let is : line ≡ g.line = (first_lines line g.line more g.more clean g.clean (sym next ∙ g.next)).0 in
        let (k, x, journal) = c.good in
        none (k, g.rest ++ x, (journal.0, (journal.1.0, whole line x is ∙ journal.1.1)))
      where
        whole : (l x : List ℕ) → l ≡ g.line → (lines_text b.before ++ ended l) ++ (g.rest ++ x) ≡ lines_text c.before ++ x
        whole l x same =
            ap (λ (t : List ℕ). (lines_text b.before ++ ended t) ++ (g.rest ++ x)) same
            ∙ (append_assoc (lines_text b.before) (ended g.line) (g.rest ++ x)
            ∙ (ap (λ t. lines_text b.before ++ t) (sym (append_assoc (ended g.line) g.rest x))
            ∙ (sym (append_assoc (lines_text b.before) (ended g.line ++ g.rest) x) ∙ ap (λ t. t ++ x) (sym g.on))))

one_bad_line : (text : List ℕ) (row other : ℕ) → IsBadLine text row → IsBadLine text other → row ≡ other
one_bad_line text row other b c = elim (cases_order (length b.before) (length c.before)) [
  | inl is ↦ b.counted ∙ (ap (λ (n : ℕ). n + 1) is ∙ sym c.counted)
  | inr (inl less) ↦ absurd (not_before text row other b c less)
  | inr (inr more) ↦ absurd (not_before text other row c b more)
]

pub one_answer : (text : List ℕ) (a b : Result (List Entry) JournalRefusal) → IsJournalRead text a → IsJournalRead text b → a ≢ Err refusal.NoMemory → b ≢ Err refusal.NoMemory → a ≡ b
one_answer text (Ok h) (Ok k) x y p q = ap Ok (one_history h k text x y)
one_answer text (Ok h) (Err (refusal.BadLine row)) x y p q = absurd (none_is_bad h text row x y)
one_answer text (Err (refusal.BadLine row)) (Ok h) x y p q = absurd (none_is_bad h text row y x)
one_answer text (Err (refusal.BadLine row)) (Err (refusal.BadLine other)) x y p q = ap (λ (r : ℕ). Err (refusal.BadLine r)) (one_bad_line text row other x y)
one_answer text (Err refusal.NoMemory) b x y p q = absurd (p refl)
one_answer text (Ok h) (Err refusal.NoMemory) x y p q = absurd (q refl)
one_answer text (Err (refusal.BadLine row)) (Err refusal.NoMemory) x y p q = absurd (q refl)

-- a history is written in a format that has words for each of its entries
pub has_journal : (history : List Entry) → FitsHistory history → HasJournalIn Three history
has_journal [] fits = tt
has_journal (e ∷ history) (fit, fits) = ((fit, refl), has_journal history fits)

pub printed_is_read : (history : List Entry) (answer : Result (List Entry) JournalRefusal) → FitsHistory history → IsJournalRead (journal_of history) answer → (answer ≡ Ok history) ⊎ (answer ≡ Err refusal.NoMemory)
printed_is_read history (Ok h) fits is = inl (ap Ok (one_history h history (journal_of history) is (Three, (has_journal history fits, refl))))
printed_is_read history (Err (refusal.BadLine row)) fits is = absurd (none_is_bad history (journal_of history) row (Three, (has_journal history fits, refl)) is)
printed_is_read history (Err refusal.NoMemory) fits is = inr refl
