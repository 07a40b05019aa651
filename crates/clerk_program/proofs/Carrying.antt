-- What `carry` makes of bytes keeps its promise and is the only text that does, and it is made where bytes are taken.
use Rattle.std.proofs.Common.{◌≡◌, ◌<◌, ◌≤◌, ◌+◌, ◌∷◌, ◌++◌, [], ℕ, suc, Bool, true, false, List, Some, None, get_or, length, map, take, refl, ap, sym, subst, ◌∙◌, append-nil, append_assoc, arith}
use Rattle.std.proofs.lemmas.List.{length-map, length-take-le, map_push, take_all, take_more}
use Rattle.std.specs.Prelude.{nat_le, if◌then◌else◌}
use Rattle.std.proofs.lemmas.Bool.{le-leb, leb-true}
use Rattle.std.specs.String.{string_bytes}
use Rattle.day_text.specs.Days.{DayParts, day_of}
use Rattle.office_words.specs.declared.entry.Entry.{Entry}
use Rattle.day_text.proofs.EveryDay.{day_bounded}
use Rattle.office_core.specs.Machine.{IsLegal}
use Rattle.journal_whole.specs.Wholes.{IsWhole}
use Rattle.day_writer.specs.Rows.{day_text_of}
use Rattle.day_writer.specs.Writable.{IsWritable}
use Rattle.day_writer.proofs.Written.{read_is_writable, written_is_read}
use Rattle.next_day.specs.Laws.{numbers_standing}
use Rattle.next_day.specs.NextDay.{next_day}
use Rattle.next_day.proofs.Numbers.{standing_in_force}
use Rattle.next_day.proofs.Writable.{next_days, next_days_begin}
use Rattle.permit_program.specs.Command.{Answer, IsCommandAnswer, IsRefusalOf, Makes}
use Rattle.permit_program.specs.Runs.{most_bytes}
use Rattle.permit_program.specs.declared.refusal.Refusal.{Refusal}
use Rattle.permit_program.specs.declared.refusal.Refusal.TheVariants as refusal
use Rattle.clerk_program.specs.declared.carry.Carried.{Carried}
use Rattle.clerk_program.specs.declared.whole_day.WholeDay.{WholeDay}
use Rattle.next_day.specs.declared.standing.Standing.{Standing}
use Rattle.clerk_program.specs.Carry.{AreCarriedLines, IsCarried, IsCarriedOver, carried_line, carried_lines, carry, judged_by_length}
use Rattle.clerk_program.specs.Carrying.{IsCarriedDay, IsReadyToCarry}
use Rattle.clerk_program.specs.Judging.{IsUnfit, IsWholeDay, Stops, file_of}
use Rattle.clerk_program.specs.Laws.{CarriesWhatItPromises}
use Rattle.clerk_program.specs.WholeJournals.{IsWholeJournal, answer_to_bytes}
use Rattle.clerk_program.proofs.Served.{whole_of}
use Rattle.clerk_program.proofs.Wholes.{ComesToOne, goes_on, judged_more, one_whole, whole_where_taken}

pub carried_once : (in_force : Bool) → ComesToOne (IsCarriedOver in_force)
carried_once in_force f es a b is is' = sym is ∙ is'

pub refused_carry : (in_force : Bool) (bytes : List ℕ) (r : Refusal) → IsUnfit bytes r → IsRefusalOf (carry in_force) bytes r
refused_carry in_force bytes (refusal.Refused status line) unfit =
    judged_more Stops (IsCarriedOver in_force) (λ f es j stops. absurd stops) bytes (Some (record { status = status; line = string_bytes line })) unfit
refused_carry in_force bytes refusal.NoMemory unfit = tt

fitting : (text : List ℕ) → length text ≤ most_bytes → judged_by_length text ≡ None
fitting text few = ap (λ (b : Bool). if b then None else Some answer_to_bytes) (le-leb (length text) most_bytes few)

too_many : (text : List ℕ) → most_bytes < length text → judged_by_length text ≡ Some answer_to_bytes
too_many text many = by (nat_le (length text) most_bytes) refl
  where
    by : (b : Bool) → nat_le (length text) most_bytes ≡ b → (if b then None else Some answer_to_bytes) ≡ Some answer_to_bytes
    by true is = absurd (omega (arith, many, leb-true (length text) most_bytes is))
    by false is = refl

fits_of : (text : List ℕ) → judged_by_length text ≡ None → length text ≤ most_bytes
fits_of text is = by (nat_le (length text) most_bytes) refl is
  where
    by : (b : Bool) → nat_le (length text) most_bytes ≡ b → (if b then None else Some answer_to_bytes) ≡ None → length text ≤ most_bytes
    by true fits none = leb-true (length text) most_bytes fits
    by false large none = absurd (cc none)

-- a text that is refused is so by its length
pub too_long_status : (text : List ℕ) (answer : Answer) → judged_by_length text ≡ Some answer → Some answer_to_bytes ≡ Some answer
too_long_status text answer is = by (nat_le (length text) most_bytes) is
  where
    by : (b : Bool) → (if b then None else Some answer_to_bytes) ≡ Some answer → Some answer_to_bytes ≡ Some answer
    by true none = absurd (cc none)
    by false same = same

-- the next day behind a whole journal
module _ (in_force : Bool) (bytes : List ℕ) (w : IsWholeJournal bytes) where
  abbrev Next : DayParts
  Next = next_day in_force w.file w.history

  writable : IsWritable w.file
  writable = read_is_writable w.behind w.file w.day_read

  pub carried_of : (text : List ℕ) → text ≡ day_text_of Next → length text ≤ most_bytes → IsCarried in_force bytes text
  carried_of text is fits =
      let whole = whole_of w.behind w.file w.day_read w.history w.served in
      let bounded = day_bounded w.behind w.file w.day_read in
      let next = next_days in_force w.file w.history writable w.served.legal whole in
      record {
        whole = w;
        written = is;
        fits = fits;
        read_again = ap day_of is ∙ written_is_read Next next.writable;
        left = next;
        permits = standing_in_force w.file w.history bounded.roads bounded.base.trains w.served.legal;
        begins = next_days_begin in_force w.file w.history writable w.served.legal whole;
      }

  pub carry_makes : (text : List ℕ) → text ≡ day_text_of Next → length text ≤ most_bytes → Makes (carry in_force) bytes text
  carry_makes text is fits = record {
    taken = goes_on (IsCarriedOver in_force) bytes None w (ap judged_by_length (sym is) ∙ fitting text fits);
    output = carried_of text is fits;
    only = λ free other o.
        let same = one_whole bytes o.whole w in
        o.written ∙ (ap (λ (f : DayParts). day_text_of (next_day in_force f o.whole.history)) same.1
        ∙ (ap (λ (es : List Entry). day_text_of (next_day in_force w.file es)) same.0 ∙ sym is));
  }

  pub carry_refuses : (text : List ℕ) → text ≡ day_text_of Next → most_bytes < length text → (r : Refusal) → IsCommandAnswer answer_to_bytes r → IsRefusalOf (carry in_force) bytes r
  carry_refuses text is many (refusal.Refused status line) answers =
      goes_on (IsCarriedOver in_force) bytes (Some (record { status = status; line = string_bytes line })) w
      (ap judged_by_length (sym is) ∙ (too_many text many ∙ ap Some answers))
  carry_refuses text is many refusal.NoMemory answers = tt

-- a whole day, as it is at hand
module _ (bytes : List ℕ) (d : WholeDay) (h : IsWholeDay bytes d) where
  pub ready : IsReadyToCarry d
  ready =
      let w = h.whole in
      let whole = whole_of w.behind w.file w.day_read w.history w.served in
      record {
        writable = subst IsWritable h.file (read_is_writable w.behind w.file w.day_read);
        legal = subst (IsLegal (file_of d).base (file_of d).day) h.history (subst (λ (f : DayParts). IsLegal f.base f.day w.history) h.file w.served.legal);
        whole = subst (IsWhole (length (file_of d).actors) (file_of d).commands) h.history
            (subst (λ (f : DayParts). IsWhole (length f.actors) f.commands w.history) h.file whole);
        left = h.left;
      }

  -- what is said of the day at hand is said of the journal's
  same_next : (in_force : Bool) → next_day in_force (file_of d) d.history.items ≡ next_day in_force h.whole.file h.whole.history
  same_next in_force = ap (λ (f : DayParts). next_day in_force f d.history.items) (sym h.file) ∙ ap (next_day in_force h.whole.file) (sym h.history)

  same_numbers : numbers_standing (file_of d) d.history.items ≡ numbers_standing h.whole.file h.whole.history
  same_numbers = ap (λ (f : DayParts). numbers_standing f d.history.items) (sym h.file) ∙ ap (numbers_standing h.whole.file) (sym h.history)

  module _ (in_force : Bool) (carried : Carried) (is : IsCarriedDay in_force d carried) where
    text_is : carried.text.items ≡ day_text_of (next_day in_force h.whole.file h.whole.history)
    text_is = is.text ∙ ap day_text_of (same_next in_force)

    pub makes : length carried.text.items ≤ most_bytes → Makes (carry in_force) bytes carried.text.items
    makes fits = carry_makes in_force bytes h.whole carried.text.items text_is fits

    pub refuses : most_bytes < length carried.text.items → (r : Refusal) → IsCommandAnswer answer_to_bytes r → IsRefusalOf (carry in_force) bytes r
    refuses many r answers = carry_refuses in_force bytes h.whole carried.text.items text_is many r answers

    pub tells : AreCarriedLines bytes carried.lines.items
    tells = record { whole = h.whole; each = is.lines ∙ ap (carried_lines 0) same_numbers }

pub carried_where_promised : CarriesWhatItPromises
carried_where_promised in_force bytes = (
  λ x.
      let (w, taken) = whole_where_taken (IsCarriedOver in_force) bytes x in
      let text = day_text_of (next_day in_force w.file w.history) in
      (text, carried_of in_force bytes w text refl (fits_of text taken)),
  λ p.
      let c = p.1 in
      goes_on (IsCarriedOver in_force) bytes None c.whole (ap judged_by_length (sym c.written) ∙ fitting p.0 c.fits),
)

-- the lines of so many permits, and of one more
lines_more : (last old : ℕ) (olds : List ℕ) → carried_lines last (olds ++ old ∷ []) ≡ carried_lines last olds ++ carried_line old ((last + length olds) + 1)
lines_more last old [] =
    let here : last + 1 ≡ (last + 0) + 1 = omega arith in
    append-nil (carried_line old (last + 1)) ∙ ap (carried_line old) here
lines_more last old (n ∷ olds) =
    let there : ((last + 1) + length olds) + 1 ≡ (last + suc (length olds)) + 1 = omega arith in
    ap (λ (t : List ℕ). carried_line n (last + 1) ++ t) (lines_more (last + 1) old olds ∙ ap (λ (k : ℕ). carried_lines (last + 1) olds ++ carried_line old k) there)
    ∙ sym (append_assoc (carried_line n (last + 1)) (carried_lines (last + 1) olds) (carried_line old ((last + suc (length olds)) + 1)))

pub line_more : (standing : List Standing) (i : ℕ) (p : Standing) (lines new : List ℕ) → i < length standing → p ≡ get_or standing i p
    → lines ≡ carried_lines 0 (map (λ q. q.number) (take i standing)) → new ≡ lines ++ carried_line (get_or standing i p).number (i + 1)
    → new ≡ carried_lines 0 (map (λ q. q.number) (take (i + 1) standing))
line_more standing i p lines new within is so written =
    let more : take (i + 1) standing ≡ take i standing ++ p ∷ [] = take_more standing i p within ∙ ap (λ (x : Standing). take i standing ++ x ∷ []) (sym is) in
    let count : (0 + length (map (λ (q : Standing). q.number) (take i standing))) + 1 ≡ i + 1 =
    omega (arith, length-map (take i standing) (λ (q : Standing). q.number), length-take-le i standing (omega (arith, within))) in
    written ∙ (ap (λ (q : Standing). lines ++ carried_line q.number (i + 1)) (sym is) ∙ (ap (λ (t : List ℕ). t ++ carried_line p.number (i + 1)) so
    ∙ (ap (λ (k : ℕ). carried_lines 0 (map (λ (q : Standing). q.number) (take i standing)) ++ carried_line p.number k) (sym count)
    ∙ (sym (lines_more 0 p.number (map (λ (q : Standing). q.number) (take i standing)))
    ∙ (ap (carried_lines 0) (sym (map_push (λ (q : Standing). q.number) (take i standing) p)) ∙ ap (λ (l : List Standing). carried_lines 0 (map (λ (q : Standing). q.number) l)) (sym more))))))

pub lines_all : (standing : List Standing) (i : ℕ) (lines : List ℕ) → length standing ≤ i → lines ≡ carried_lines 0 (map (λ q. q.number) (take i standing))
    → lines ≡ carried_lines 0 (map (λ q. q.number) standing)
lines_all standing i lines far so = so ∙ ap (λ (l : List Standing). carried_lines 0 (map (λ (q : Standing). q.number) l)) (take_all i standing far)
