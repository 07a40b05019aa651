-- Bytes are cut behind a line, while the lines in front of it are passed.
use Rattle.std.proofs.Common.{◌≡◌, ◌-◌, ◌∷◌, ◌++◌, [], ℕ, true, false, List, length, take, drop, refl, ap, sym, ◌∙◌, arith, inl, inr, length-append}
use Rattle.std.specs.List.{AllByRecursion}
use Rattle.std.proofs.lemmas.List.{append-nil, append_assoc, drop-append-le, drop_all, take-append-le, take_all}
use Rattle.std.proofs.lemmas.List.Concat.{flat_map-append}
use Rattle.journal_reader.specs.Cuts.{IsCutBehindEnd, IsOther, begins_end}
use Rattle.journal_text.specs.Journals.{ended}
use Rattle.journal_reader.specs.Journals.{IsLine, lines_text}

-- these lines were passed, none of which begins with `end `, and this is what is left
pub record Passed (bytes rest : List ℕ) : Type 0 where
  pub before : List (List ℕ)
  pub others : AllByRecursion IsOther before
  pub left : bytes ≡ lines_text before ++ rest

pub none_passed : (bytes : List ℕ) → Passed bytes bytes
none_passed bytes = record { before = []; others = tt; left = refl }

others_more : (lines : List (List ℕ)) (line : List ℕ) → AllByRecursion IsOther lines → IsOther line → AllByRecursion IsOther (lines ++ line ∷ [])
others_more [] line all more = (more, tt)
others_more (l ∷ lines) line all more = (all.0, others_more lines line all.1 more)

pub lines_more : (lines : List (List ℕ)) (line : List ℕ) → lines_text (lines ++ line ∷ []) ≡ lines_text lines ++ ended line
lines_more lines line = flat_map-append ended lines (line ∷ []) ∙ ap (λ l. lines_text lines ++ l) (append-nil (ended line))

-- the bytes in front of a line and with it
behind : {bytes rest : List ℕ} (p : Passed bytes rest) (line more : List ℕ) → rest ≡ ended line ++ more → bytes ≡ (lines_text p.before ++ ended line) ++ more
behind p line more is = p.left ∙ (ap (λ l. lines_text p.before ++ l) is ∙ sym (append_assoc (lines_text p.before) (ended line) more))

pub one_passed : (bytes rest line more : List ℕ) → Passed bytes rest → rest ≡ ended line ++ more → IsLine line → begins_end line ≡ false → Passed bytes more
one_passed bytes rest line more p is clean other = record {
  before = p.before ++ line ∷ [];
  others = others_more p.before line p.others (clean, other);
  left = behind p line more is ∙ ap (λ l. l ++ more) (sym (lines_more p.before line));
}

-- bytes are cut where so many are left
front_is : (bytes front rest : List ℕ) → bytes ≡ front ++ rest → take (length bytes - length rest) bytes ≡ front
front_is bytes front rest is =
    let long = ap (λ (l : List ℕ). length l) is in
    let at : length bytes - length rest ≡ length front = omega (arith, long, length-append front rest) in
    ap (λ n. take n bytes) at ∙ (ap (take (length front)) is ∙ (take-append-le (length front) front rest (omega arith) ∙ take_all (length front) front (omega arith)))

rest_is : (bytes front rest : List ℕ) → bytes ≡ front ++ rest → drop (length bytes - length rest) bytes ≡ rest
rest_is bytes front rest is =
    let long = ap (λ (l : List ℕ). length l) is in
    let at : length bytes - length rest ≡ length front = omega (arith, long, length-append front rest) in
    ap (λ n. drop n bytes) at ∙ (ap (drop (length front)) is ∙ (drop-append-le (length front) front rest (omega arith) ∙ ap (λ l. l ++ rest) (drop_all (length front) front (omega arith))))

pub cut_here : (bytes rest line more : List ℕ) → Passed bytes rest → rest ≡ ended line ++ more → IsLine line → begins_end line ≡ true
    → IsCutBehindEnd bytes (take (length bytes - length more) bytes) (drop (length bytes - length more) bytes)
cut_here bytes rest line more p is clean last =
    let whole = behind p line more is in
    let front = front_is bytes (lines_text p.before ++ ended line) more whole in
    record {
      whole = whole ∙ (ap (λ l. l ++ more) (sym front) ∙ ap (λ l. take (length bytes - length more) bytes ++ l) (sym (rest_is bytes (lines_text p.before ++ ended line) more whole)));
      before = p.before;
      others = p.others;
      last = line;
      line = clean;
      end = inl (last, front);
    }

pub no_cut : (bytes rest : List ℕ) → Passed bytes rest → IsLine rest → IsCutBehindEnd bytes (take (length bytes) bytes) (drop (length bytes) bytes)
no_cut bytes rest p clean =
    let all = take_all (length bytes) bytes (omega arith) in
    let none = drop_all (length bytes) bytes (omega arith) in
    record {
      whole = sym (ap (λ l. take (length bytes) bytes ++ l) none ∙ (append-nil (take (length bytes) bytes) ∙ all));
      before = p.before;
      others = p.others;
      last = rest;
      line = clean;
      end = inr (none, all ∙ p.left);
    }
