-- Journals, line by line: what follows lines that are read, and that each text is the journal of one history.
use Rattle.std.proofs.Common.{◌≡◌, ◌≢◌, ◌∙◌, ◌∷◌, ◌++◌, [], ℕ, List, Some, None, true, false, eqb, refl, ap, sym, subst, arith, length, append_assoc, inl, inr, ◌⊎◌}
use Rattle.std.specs.Fmt.{digits}
use Rattle.std.specs.Cmp.{first_so, second_so}
use Rattle.std.specs.List.{join_with_byte, list_all}
use Rattle.std.proofs.lemmas.Bool.{eqb-false, not-true, true≢false}
use Rattle.std.specs.Str.{bytes_eq}
use Rattle.std.proofs.lemmas.Slice.Eq.{bytes_eq-Decides}
use Rattle.std.proofs.lemmas.List.{append-nil, append_cancel_left}
use Rattle.std.proofs.lemmas.List.Splits.{join_with_byte-slice_split}
use Rattle.office_words.specs.declared.entry.Entry.{Entry}
use Rattle.journal_text.specs.Words.{Words, index, spaced}
use Rattle.journal_text.specs.declared.format.Format.{Format}
use Rattle.journal_text.specs.declared.format.Format.TheVariants.{One, Two, Three}
use Rattle.journal_text.specs.Journals.{end_line, ended, first_line, journal_in, line_of}
use Rattle.journal_reader.specs.Words.{number_spelled, parts, place_of}
use Rattle.journal_reader.specs.Fits.{FitsEntry}
use Rattle.journal_reader.specs.Formats.{FitsIn, HasJournalIn}
use Rattle.journal_reader.specs.Laws.{NoProperPrefix}
use Rattle.journal_reader.specs.Readers.{entry_of, entry_words}
use Rattle.journal_reader.specs.Journals.{IsJournalOf, IsLine, front_of, lines_of}
use Rattle.journal_reader.proofs.Clean.{all_append, all_words, dark_is_no, is_no, is_word, no_digit}
use Rattle.journal_reader.proofs.Spelled.{entry_again, line_words}

-- the words of a line are its text
join_spaced : (w : List ℕ) (ws : Words) → join_with_byte 32 (w ∷ ws) ≡ w ++ spaced ws
unfolding spaced
join_spaced w [] = sym (append-nil w)
join_spaced w (v ∷ ws) = ap (λ t. w ++ (32 ∷ t)) (join_spaced v ws)

pub line_found : (line : List ℕ) (e : Entry) → (parts 32 line ≡ entry_words e) × FitsEntry e → (line ≡ line_of e) × FitsEntry e
line_found line e (h, k) = (sym (join_with_byte-slice_split 32 line) ∙ (ap (join_with_byte 32) h ∙ join_spaced (index e.caller) _), k)

-- a line has no line feed
spaced_no : (ws : Words) → all_words ws ≡ true → list_all (is_no 10) (spaced ws) ≡ true
unfolding spaced
spaced_no [] h = refl
spaced_no (w ∷ ws) h =
    all_append (is_no 10) w (spaced ws) (dark_is_no 10 (omega arith) w (first_so (is_word w) (all_words ws) h)) (spaced_no ws (second_so (is_word w) (all_words ws) h))

line_from : (text : List ℕ) → list_all (is_no 10) text ≡ true → IsLine text
line_from [] h = tt
line_from (b ∷ text) h = (eqb-false b 10 (not-true (eqb b 10) (first_so (is_no 10 b) (list_all (is_no 10) text) h)), line_from text (second_so (is_no 10 b) (list_all (is_no 10) text) h))

pub entry_line : (e : Entry) → FitsEntry e → IsLine (line_of e)
unfolding spaced
entry_line e h = line_from (line_of e) (spaced_no (entry_words e) (line_words e h))

pub end_is_line : (n : ℕ) → IsLine (end_line n)
end_is_line n = line_from (end_line n) (no_digit 10 (omega arith) n)

pub header_is_line : (f : Format) → IsLine (first_line f)
header_is_line One = line_from (first_line One) refl
header_is_line Two = line_from (first_line Two) refl
header_is_line Three = line_from (first_line Three) refl

other : (f g : Format) → bytes_eq (first_line f) (first_line g) ≡ false → first_line f ≢ first_line g
other f g differ e = true≢false (sym ((bytes_eq-Decides (first_line f) (first_line g)).1 e) ∙ differ)

-- the first line tells the format
same_format : (f g : Format) → first_line f ≡ first_line g → f ≡ g
same_format One One e = refl
same_format One Two e = absurd (other One Two refl e)
same_format One Three e = absurd (other One Three refl e)
same_format Two One e = absurd (other Two One refl e)
same_format Two Two e = refl
same_format Two Three e = absurd (other Two Three refl e)
same_format Three One e = absurd (other Three One refl e)
same_format Three Two e = absurd (other Three Two refl e)
same_format Three Three e = refl

head : {c d : ℕ} {s t : List ℕ} → c ∷ s ≡ d ∷ t → c ≡ d
head q = cc

tail : {c d : ℕ} {s t : List ℕ} → c ∷ s ≡ d ∷ t → s ≡ t
tail q = cc

-- two texts that are equal have one first line
pub first_lines : (a b x y : List ℕ) → IsLine a → IsLine b → ended a ++ x ≡ ended b ++ y → (a ≡ b) × (x ≡ y)
first_lines [] [] x y h k e = (refl, tail e)
first_lines [] (b ∷ t) x y h (k, ks) e = absurd (k (sym (head e)))
first_lines (a ∷ s) [] x y (h, hs) k e = absurd (h (head e))
first_lines (a ∷ s) (b ∷ t) x y (h, hs) (k, ks) e = let (l, r) = first_lines s t x y hs ks (tail e) in (rw (head e, l) refl, r)

-- a line feed is in no line
pub no_feed : (a x : List ℕ) → IsLine (ended a ++ x) → ⊥
no_feed [] x (h, hs) = h refl
no_feed (b ∷ a) x (h, hs) = no_feed a x hs

-- an end line is no entry
no_entry : (n : ℕ) → entry_of (end_line n) ≡ None
unfolding entry_of place_of number_spelled digits
no_entry n = refl

pub entry_is_no_end : (e : Entry) (n : ℕ) → FitsEntry e → line_of e ≢ end_line n
entry_is_no_end e n h is = let no : Some e ≡ None = sym (entry_again e h) ∙ (ap entry_of is ∙ no_entry n) in cc

one_entry : (e f : Entry) → FitsEntry e → FitsEntry f → line_of e ≡ line_of f → e ≡ f
one_entry e f h k is = let same : Some e ≡ Some f = sym (entry_again e h) ∙ (ap entry_of is ∙ entry_again f k) in cc

-- a journal that begins with the lines of some entries has these entries first, and the lines of the others follow
pub record Follows (f : Format) (h k : List Entry) (n : ℕ) (rest : List ℕ) : Type 0 where
  pub others : List Entry
  pub fits : HasJournalIn f others
  pub all : k ≡ h ++ others
  pub lines : rest ≡ lines_of others ++ ended (end_line n)

pub follows : (f : Format) (h k : List Entry) (n : ℕ) (rest : List ℕ) → HasJournalIn f h → HasJournalIn f k → lines_of k ++ ended (end_line n) ≡ lines_of h ++ rest → Follows f h k n rest
follows f [] k n rest fits fits' e = record { others = k; fits = fits'; all = refl; lines = sym e }
follows f (e ∷ h) [] n rest (fit, fits) fits' is =
    absurd (entry_is_no_end e n fit.0 (sym (first_lines (end_line n) (line_of e) [] (lines_of h ++ rest) (end_is_line n) (entry_line e fit.0)
    (append-nil (ended (end_line n)) ∙ (is ∙ append_assoc (ended (line_of e)) (lines_of h) rest))).0))
follows f (e ∷ h) (d ∷ k) n rest (fit, fits) (fit', fits') is =
    let two = first_lines (line_of d) (line_of e) (lines_of k ++ ended (end_line n)) (lines_of h ++ rest) (entry_line d fit'.0) (entry_line e fit.0)
    (sym (append_assoc (ended (line_of d)) (lines_of k) (ended (end_line n))) ∙ (is ∙ append_assoc (ended (line_of e)) (lines_of h) rest)) in
    let more = follows f h k n rest fits fits' two.1 in
    record { others = more.others; fits = more.fits; all = ap (λ x. x ∷ k) (one_entry d e fit'.0 fit.0 two.0) ∙ ap (λ t. e ∷ t) more.all; lines = more.lines }

pub journal_front : (f : Format) (h : List Entry) → journal_in f h ≡ front_of f h ++ ended (end_line (length h))
journal_front f h = sym (append_assoc (ended (first_line f)) (lines_of h) (ended (end_line (length h))))

-- a journal that begins with the first line of a format is in this format
same_first : (f g : Format) (h k : List Entry) (rest : List ℕ) → journal_in g k ≡ front_of f h ++ rest → g ≡ f
same_first f g h k rest e =
    same_format g f (first_lines (first_line g) (first_line f) _ _ (header_is_line g) (header_is_line f) (e ∙ append_assoc (ended (first_line f)) (lines_of h) rest)).0

pub journal_follows : (f g : Format) (h k : List Entry) (rest : List ℕ) → HasJournalIn f h → HasJournalIn g k → journal_in g k ≡ front_of f h ++ rest → Follows f h k (length k) rest
journal_follows f g h k rest fits fits' e = by g (same_first f g h k rest e) fits' e
  where
    by : (g : Format) → g ≡ f → HasJournalIn g k → journal_in g k ≡ front_of f h ++ rest → Follows f h k (length k) rest
    by g same fits' e =
        follows f h k (length k) rest fits (subst (λ x. HasJournalIn x k) same fits')
        (append_cancel_left (ended (first_line f)) _ _ (sym (ap (λ x. journal_in x k) same) ∙ (e ∙ append_assoc (ended (first_line f)) (lines_of h) rest)))

-- what follows is a line and more: it is the line of an entry, or the end line
pub next_line : (f g : Format) (h k : List Entry) (line more : List ℕ) → HasJournalIn f h → HasJournalIn g k → IsLine line → journal_in g k ≡ front_of f h ++ (ended line ++ more)
    → ((e : Entry) × FitsIn f e × (line ≡ line_of e)) ⊎ ((k ≡ h) × (line ≡ end_line (length h)) × (more ≡ []))
next_line f g h k line more fits fits' clean e =
    let t = journal_follows f g h k (ended line ++ more) fits fits' e in by t.others t.fits t.all t.lines
  where
    by : (o : List Entry) → HasJournalIn f o → k ≡ h ++ o → ended line ++ more ≡ lines_of o ++ ended (end_line (length k))
        → ((e : Entry) × FitsIn f e × (line ≡ line_of e)) ⊎ ((k ≡ h) × (line ≡ end_line (length h)) × (more ≡ []))
    by [] fit all lines =
        let same : k ≡ h = all ∙ append-nil h in
        let two = first_lines line (end_line (length k)) more [] clean (end_is_line (length k)) (lines ∙ sym (append-nil (ended (end_line (length k))))) in
        inr (same, two.0 ∙ ap (λ (x : List Entry). end_line (length x)) same, two.1)
    by (x ∷ o) (fit, fits) all lines =
        inl (x, fit, (first_lines line (line_of x) more (lines_of o ++ ended (end_line (length k))) clean (entry_line x fit.0) (lines ∙ append_assoc (ended (line_of x)) (lines_of o) (ended (end_line (length k))))).0)

-- what follows is not without a line feed
pub never_unended : (f g : Format) (h k : List Entry) (rest : List ℕ) → HasJournalIn f h → HasJournalIn g k → IsLine rest → journal_in g k ≢ front_of f h ++ rest
never_unended f g h k rest fits fits' clean e =
    let t = journal_follows f g h k rest fits fits' e in by t.others t.lines
  where
    by : (o : List Entry) → rest ≡ lines_of o ++ ended (end_line (length k)) → ⊥
    by [] lines = no_feed (end_line (length k)) [] (subst (λ (t : List ℕ). IsLine t) (lines ∙ sym (append-nil (ended (end_line (length k))))) clean)
    by (x ∷ o) lines = no_feed (line_of x) (lines_of o ++ ended (end_line (length k))) (subst (λ (t : List ℕ). IsLine t) (lines ∙ append_assoc (ended (line_of x)) (lines_of o) (ended (end_line (length k)))) clean)

-- after a whole journal nothing follows, and it is that of one history
pub nothing_follows : (f g : Format) (h k : List Entry) (more : List ℕ) → HasJournalIn f h → HasJournalIn g k → journal_in g k ≡ journal_in f h ++ more → (k ≡ h) × (more ≡ [])
nothing_follows f g h k more fits fits' e =
    by (next_line f g h k (end_line (length h)) more fits fits' (end_is_line (length h)) (e ∙ (ap (λ t. t ++ more) (journal_front f h) ∙ append_assoc (front_of f h) (ended (end_line (length h))) more)))
  where
    by : ((x : Entry) × FitsIn f x × (end_line (length h) ≡ line_of x)) ⊎ ((k ≡ h) × (end_line (length h) ≡ end_line (length h)) × (more ≡ [])) → (k ≡ h) × (more ≡ [])
    by (inl (x, fit, is)) = absurd (entry_is_no_end x (length h) fit.0 (sym is))
    by (inr (same, is, none)) = (same, none)

pub one_history : (h k : List Entry) (text : List ℕ) → IsJournalOf h text → IsJournalOf k text → h ≡ k
one_history h k text (f, (fits, is)) (g, (fits', is')) =
    sym (nothing_follows f g h k [] fits fits' (sym is' ∙ (is ∙ sym (append-nil (journal_in f h))))).0

pub no_proper_prefix : NoProperPrefix
no_proper_prefix f g h k more fits fits' e = (nothing_follows f g h k more fits fits' e).1
