-- Which line of a text is bad.
use Rattle.std.proofs.Common.{◌≡◌, ◌∙◌, ◌<◌, ◌≤◌, ◌+◌, ◌∷◌, ◌++◌, [], ℕ, List, Option, Some, None, true, false, eqb, refl, ap, sym, subst, arith, length, map, append_assoc, inl, inr, ◌⊎◌}
use Rattle.std.specs.List.{AllByRecursion}
use Rattle.std.specs.Str.{bytes_eq}
use Rattle.std.proofs.Math.ListN.{length-append}
use Rattle.std.proofs.lemmas.List.{append-nil, length-map}
use Rattle.std.proofs.lemmas.List.Concat.{flat_map-append}
use Rattle.std.proofs.lemmas.Slice.Eq.{bytes_eq-Decides}
use Rattle.std.proofs.lemmas.Bool.{cases_eq, eqb-true}
use Rattle.std.proofs.lemmas.Bool.Decides.{nat_tests}
use Rattle.office_words.specs.declared.entry.Entry.{Entry}
use Rattle.journal_text.specs.declared.format.Format.{Format}
use Rattle.journal_text.specs.declared.format.Format.TheVariants.{One, Two, Three}
use Rattle.journal_text.specs.Journals.{end_line, ended, first_line, journal_in, line_of}
use Rattle.journal_reader.specs.Formats.{FitsIn, HasJournalIn, if_said}
use Rattle.journal_reader.specs.Readers.{entry_in}
use Rattle.journal_reader.specs.Journals.{BeginsAJournal, IsBadLine, IsBadNext, IsFirstLine, IsJournalOf, IsLine, front_of, lines_of, lines_text}
use Rattle.journal_reader.proofs.Cutting.{lines_more}
use Rattle.journal_reader.proofs.Spelled.{entry_again}
use Rattle.journal_reader.proofs.Whole.{end_is_line, entry_line, first_lines, header_is_line, journal_front, never_unended, next_line, no_feed, nothing_follows}

-- the line of an entry is read as that entry, in a format that has words for it
pub said_again : (f : Format) (e : Entry) → FitsIn f e → entry_in f (line_of e) ≡ Some e
said_again f e (fit, said) = ap (if_said f) (entry_again e fit) ∙ rw said refl

-- the lines of the first line and of entries
abbrev lines_list : Format → List Entry → List (List ℕ)
lines_list f h = first_line f ∷ map line_of h

lines_are : (h : List Entry) → lines_text (map line_of h) ≡ lines_of h
lines_are [] = refl
lines_are (e ∷ h) = ap (λ t. ended (line_of e) ++ t) (lines_are h)

all_lines : (f : Format) (h : List Entry) → HasJournalIn f h → AllByRecursion IsLine (map line_of h)
all_lines f [] fits = tt
all_lines f (e ∷ h) (fit, fits) = (entry_line e fit.0, all_lines f h fits)

-- the line behind the first lines is bad
bad_behind : (f : Format) (h : List Entry) (text rest : List ℕ) → HasJournalIn f h → text ≡ front_of f h ++ rest → IsBadNext (front_of f h) rest → IsBadLine text (length h + 2)
bad_behind f h text rest fits whole bad =
    let is : lines_text (lines_list f h) ≡ front_of f h = ap (λ t. ended (first_line f) ++ t) (lines_are h) in
    let long = length-map h line_of in
    record {
      before = lines_list f h;
      rest = rest;
      lines = (header_is_line f, all_lines f h fits);
      whole = whole ∙ ap (λ t. t ++ rest) (sym is);
      counted = omega (arith, long);
      good = subst BeginsAJournal (sym is) (h, ended (end_line (length h)), (f, (fits, sym (journal_front f h))));
      bad = subst (λ (t : List ℕ). IsBadNext t rest) (sym is) bad;
    }

-- the text ends without an end line, or in a line without its line feed
pub unended : (f : Format) (h : List Entry) (text rest : List ℕ) → HasJournalIn f h → text ≡ front_of f h ++ rest → IsLine rest → IsBadLine text (length h + 2)
unended f h text rest fits whole clean =
    bad_behind f h text rest fits whole (inl (clean, λ k (g, (fits', is)). never_unended f g h k rest fits fits' clean (sym is)))

-- a line that is neither an entry nor the end line
pub no_line : (f : Format) (h : List Entry) (text line more : List ℕ) → HasJournalIn f h → text ≡ front_of f h ++ (ended line ++ more) → IsLine line → entry_in f line ≡ None → bytes_eq line (end_line (length h)) ≡ false → IsBadLine text (length h + 2)
no_line f h text line more fits whole clean other open_ =
    bad_behind f h text (ended line ++ more) fits whole (inr (line, more, clean, refl, λ (k, rest, (g, (fits', is))). by (next_line f g h k line rest fits fits' clean (sym is ∙ append_assoc (front_of f h) (ended line) rest))))
  where
    differ : (e : Entry) → ◌≡◌ {A = Option Entry} None (Some e) → ⊥
    differ e q = cc

    by : {k : List Entry} {rest : List ℕ} → ((e : Entry) × FitsIn f e × (line ≡ line_of e)) ⊎ ((k ≡ h) × (line ≡ end_line (length h)) × (rest ≡ [])) → ⊥
    by (inl (e, fit, is)) = differ e (sym other ∙ (ap (entry_in f) is ∙ said_again f e fit))
    by (inr (same, is, none)) = let t = (bytes_eq-Decides line (end_line (length h))).1 is in cc (t, open_)

-- the first line of a text, if it has one
one_line : (text : List ℕ) → IsLine text ⊎ ((line more : List ℕ) × IsLine line × (text ≡ ended line ++ more))
one_line [] = inl tt
one_line (b ∷ text) = elim (cases_eq b 10) [
  | inl is ↦ inr ([], text, tt, ap (λ (c : ℕ). c ∷ text) is)
  | inr other ↦ elim (one_line text) [
    | inl clean ↦ inl (other, clean)
    | inr (line, more, clean, is) ↦ inr (b ∷ line, more, (other, clean), ap (λ t. b ∷ t) is)
  ]
]

-- what follows the end line
pub behind_end : (f : Format) (h : List Entry) (text line more : List ℕ) → HasJournalIn f h → text ≡ front_of f h ++ (ended line ++ more) → bytes_eq line (end_line (length h)) ≡ true → eqb (length more) 0 ≡ false → IsBadLine text (length h + 3)
behind_end f h text line more fits whole at open_ =
    let is : line ≡ end_line (length h) = (bytes_eq-Decides line (end_line (length h))).0 at in
    let journal : front_of f h ++ ended (end_line (length h)) ≡ journal_in f h = sym (journal_front f h) in
    let apart : front_of f h ++ (ended line ++ more) ≡ journal_in f h ++ more = ap (λ (t : List ℕ). front_of f h ++ (ended t ++ more)) is ∙ (sym (append_assoc (front_of f h) (ended (end_line (length h))) more) ∙ ap (λ t. t ++ more) journal) in
    let text_is : lines_text (before h) ≡ journal_in f h = all_text h in
    let long = long_before h in
    record {
      before = before h;
      rest = more;
      lines = (header_is_line f, with_end h fits);
      whole = whole ∙ (apart ∙ ap (λ t. t ++ more) (sym text_is));
      counted = omega (arith, long);
      good = (h, [], (f, (fits, append-nil _ ∙ text_is)));
      bad = subst (λ (t : List ℕ). IsBadNext t more) (sym text_is) (by (one_line more));
    }
  where
    some : 0 < length more
    some = grind (arith, nat_tests)

    n : ℕ
    n = length h

    before : List Entry → List (List ℕ)
    before g = first_line f ∷ (map line_of g ++ (end_line n ∷ []))

    with_end : (g : List Entry) → HasJournalIn f g → AllByRecursion IsLine (map line_of g ++ (end_line n ∷ []))
    with_end [] fits' = (end_is_line n, tt)
    with_end (e ∷ g) (fit, fits') = (entry_line e fit.0, with_end g fits')

    lines_end : (g : List Entry) → lines_text (map line_of g ++ (end_line n ∷ [])) ≡ lines_of g ++ ended (end_line n)
    lines_end g = lines_more (map line_of g) (end_line n) ∙ ap (λ t. t ++ ended (end_line n)) (lines_are g)

    all_text : (g : List Entry) → lines_text (before g) ≡ ended (first_line f) ++ (lines_of g ++ ended (end_line n))
    all_text g = ap (λ t. ended (first_line f) ++ t) (lines_end g)

    long_before : (g : List Entry) → length (before g) ≡ length g + 2
    long_before g = let a = length-append (map line_of g) (end_line n ∷ []) in let b = length-map g line_of in omega (arith, a, b)

    none : (g : Format) (k : List Entry) (x : List ℕ) → HasJournalIn g k → journal_in f h ++ x ≡ journal_in g k → 0 < length x → ⊥
    none g k x fits' e l = let z = (nothing_follows f g h k x fits fits' (sym e)).1 in let m : length x ≡ 0 = ap (λ (t : List ℕ). length t) z in omega (arith, l, m)

    by : IsLine more ⊎ ((l m : List ℕ) × IsLine l × (more ≡ ended l ++ m)) → IsBadNext (journal_in f h) more
    by (inl clean) = inl (clean, λ k (g, (fits', is)). none g k more fits' is some)
    by (inr (l, m, clean, is)) = inr (l, m, clean, is, λ (k, x, (g, (fits', j))). none g k (ended l ++ x) fits' (sym (append_assoc (journal_in f h) (ended l) x) ∙ j) (feed l x))
      where
        feed : (a x : List ℕ) → 0 < length (ended a ++ x)
        feed [] x = omega arith
        feed (b ∷ a) x = omega arith

-- the first line is bad
bad_first : (text : List ℕ) → IsBadNext [] text → IsBadLine text 1
bad_first text bad = record {
  before = [];
  rest = text;
  lines = tt;
  whole = refl;
  counted = refl;
  good = ([], journal_in One [], (One, (tt, refl)));
  bad = bad;
}

-- it is another, or has no line feed
pub no_header : (text line rest : List ℕ) → text ≡ ended line ++ rest → IsLine line → (IsFirstLine line → ⊥) → IsBadLine text 1
no_header text line rest whole clean other =
    bad_first text (inr (line, rest, clean, whole, λ (k, x, (g, (fits, is))). other (g, (first_lines line (first_line g) x _ clean (header_is_line g) is).0)))

pub no_lines : (text : List ℕ) → IsLine text → IsBadLine text 1
no_lines text clean = bad_first text (inl (clean, λ k (g, (fits, is)). no_feed (first_line g) _ (subst (λ (t : List ℕ). IsLine t) is clean)))

-- the whole text
pub whole_journal : (f : Format) (h : List Entry) (text line more : List ℕ) → HasJournalIn f h → text ≡ front_of f h ++ (ended line ++ more) → bytes_eq line (end_line (length h)) ≡ true → eqb (length more) 0 ≡ true → IsJournalOf h text
whole_journal f h text line more fits whole at none = (f, (fits, by more whole (eqb-true (length more) 0 none)))
  where
    is : line ≡ end_line (length h)
    is = (bytes_eq-Decides line (end_line (length h))).0 at

    by : (m : List ℕ) → text ≡ front_of f h ++ (ended line ++ m) → length m ≡ 0 → text ≡ journal_in f h
    by [] w z = w ∙ (ap (λ t. front_of f h ++ t) (append-nil (ended line)) ∙ (ap (λ (t : List ℕ). front_of f h ++ ended t) is ∙ sym (journal_front f h)))
    by (b ∷ m) w z = absurd (omega (arith, z))

-- one line more
pub one_more : (f : Format) (h : List Entry) (text rest line more : List ℕ) (e : Entry) (new : List Entry) → text ≡ front_of f h ++ rest → rest ≡ ended line ++ more → line ≡ line_of e → new ≡ h ++ (e ∷ []) → text ≡ front_of f new ++ more
one_more f h text rest line more e new whole next is last =
    whole ∙ (ap (λ t. front_of f h ++ t) (next ∙ ap (λ (t : List ℕ). ended t ++ more) is)
    ∙ (sym (append_assoc (front_of f h) (ended (line_of e)) more) ∙ ap (λ t. t ++ more) (append_assoc (ended (first_line f)) (lines_of h) (ended (line_of e)) ∙ (ap (λ t. ended (first_line f) ++ t) (sym last_line) ∙ ap (λ (x : List Entry). front_of f x) (sym last)))))
  where
    last_line : lines_of (h ++ (e ∷ [])) ≡ lines_of h ++ ended (line_of e)
    last_line = flat_map-append (λ x. ended (line_of x)) h (e ∷ []) ∙ ap (λ t. lines_of h ++ t) (append-nil (ended (line_of e)))

pub one_more_fits : (f : Format) (h : List Entry) (e : Entry) (new : List Entry) → HasJournalIn f h → FitsIn f e → new ≡ h ++ (e ∷ []) → HasJournalIn f new
one_more_fits f h e new fits fit last = subst (λ (x : List Entry). HasJournalIn f x) (sym last) (by h fits)
  where
    by : (g : List Entry) → HasJournalIn f g → HasJournalIn f (g ++ (e ∷ []))
    by [] fs = (fit, tt)
    by (d ∷ g) (d', fs) = (d', by g fs)
