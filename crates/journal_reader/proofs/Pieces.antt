-- The parts of a text around a separator.
use Rattle.std.proofs.Common.{◌≡◌, ◌≢◌, ◌∙◌, ◌<◌, ◌≤◌, ◌+◌, ◌-◌, ◌∷◌, ◌++◌, [], ℕ, zero, suc, List, Bool, true, false, cond, eqb, refl, ap, sym, arith, length, get_or, take, drop, inl, inr, ◌⊎◌, Option, Some, None, append_assoc, ltb, length-append}
use Rattle.std.specs.Prelude.{option_map}
use Rattle.std.specs.List.{slice_split, onto_first}
use Rattle.std.proofs.lemmas.Bool.{cases_lt, eq-eqb, le-leb, ltb-true, ne_eqb}
use Rattle.std.proofs.lemmas.List.Splits.{slice_split-cons_yes, slice_split-cons_no}
use Rattle.std.specs.Str.{bytes_eq}
use Rattle.std.proofs.lemmas.List.{append-nil, get_or-drop, get_or-take}
use Rattle.std.proofs.lemmas.Slice.Eq.{bytes_eq-Decides}
use Rattle.journal_text.specs.Words.{Words}
use Rattle.journal_text.specs.Journals.{ended}
use Rattle.journal_reader.specs.Words.{after_word, all_of, is_empty, left, list_of, parts, parts_left, place_of, routes_spelled, word_at}
use Rattle.journal_reader.specs.Journals.{IsLine}

-- the first separator of what follows some bytes that are none
pub none_before : (bytes : List ℕ) (sep near far : ℕ) → ((k : ℕ) → k < near → get_or bytes k 0 ≢ sep) → ((k : ℕ) → k < far → get_or (drop near bytes) k 0 ≢ sep) → (k : ℕ) → k < near + far → get_or bytes k 0 ≢ sep
none_before bytes sep near far before behind k low e = by (cases_lt k near)
  where
    by : (k < near) ⊎ (near ≤ k) → ⊥
    by (inl early) = before k early e
    by (inr past) =
        let at : near + (k - near) ≡ k = omega arith in
        behind (k - near) (omega arith) (get_or-drop near bytes (k - near) 0 ∙ (ap (λ i. get_or bytes i 0) at ∙ e))

-- the part before the first separator
pub first_part_is : (bytes : List ℕ) (sep i : ℕ) → i ≤ length bytes → ((k : ℕ) → k < i → get_or bytes k 0 ≢ sep) → (i ≡ length bytes) ⊎ (get_or bytes i 0 ≡ sep)
    → slice_split (λ x. eqb x sep) bytes ≡ take i bytes ∷ parts_left sep (drop i bytes)
first_part_is [] sep zero w none end = refl
first_part_is [] sep (suc i) w none end = absurd (omega arith)
first_part_is (b ∷ bytes) sep zero w none (inl e) = absurd (omega arith)
first_part_is (b ∷ bytes) sep zero w none (inr e) = slice_split-cons_yes (λ x. eqb x sep) b bytes (eq-eqb b sep e)
first_part_is (b ∷ bytes) sep (suc i) w none end =
    slice_split-cons_no (λ x. eqb x sep) b bytes (ne_eqb b sep (none 0 (omega arith))) ∙ rw (first_part_is bytes sep i (omega arith) (λ k h. none (suc k) (omega arith)) (next end)) refl
  where
    next : (suc i ≡ length (b ∷ bytes)) ⊎ (get_or (b ∷ bytes) (suc i) 0 ≡ sep) → (i ≡ length bytes) ⊎ (get_or bytes i 0 ≡ sep)
    next (inl e) = inl (omega arith)
    next (inr e) = inr e

pub split_some : (p : ℕ → Bool) (xs : List ℕ) → is_empty (slice_split p xs) ≡ false
split_some p [] = refl
split_some p (x ∷ xs) = by (p x) (slice_split p xs)
  where
    by : (b : Bool) (parts : List (List ℕ)) → is_empty (cond b ([] ∷ parts) (onto_first x parts)) ≡ false
    by true parts = refl
    by false [] = refl
    by false (part ∷ parts) = refl

-- where a separator stands, a part is left
pub parts_left_some : (sep : ℕ) (rest : List ℕ) → 0 < length rest → false ≡ is_empty (parts_left sep rest)
parts_left_some sep [] h = absurd (omega arith)
parts_left_some sep (b ∷ rest) h = sym (split_some (λ x. eqb x sep) rest)

-- a text without a line feed
pub is_line : (text : List ℕ) (i : ℕ) → i ≡ length text → ((k : ℕ) → k < i → get_or text k 0 ≢ 10) → IsLine text
is_line [] i h none = tt
is_line (b ∷ text) zero h none = absurd (omega (arith, h))
is_line (b ∷ text) (suc i) h none = (none 0 (omega arith), is_line text i (omega (arith, h)) (λ k low. none (suc k) (omega (arith, low))))

-- the line before the first line feed, and what follows it
pub line_at : (text : List ℕ) (i : ℕ) → i < length text → ((k : ℕ) → k < i → get_or text k 0 ≢ 10) → (i ≡ length text) ⊎ (get_or text i 0 ≡ 10) → (text ≡ ended (take i text) ++ drop (i + 1) text) × IsLine (take i text)
line_at text i low none (inl is) = absurd (omega (arith, low, is))
line_at [] i low none (inr at) = absurd (omega (arith, low))
line_at (b ∷ text) zero low none (inr at) = (ap (λ (c : ℕ). c ∷ text) at, tt)
line_at (b ∷ text) (suc i) low none (inr at) =
    let next = line_at text i (omega (arith, low)) (λ k less. none (suc k) (omega (arith, less))) (inr at) in
    let e : suc (i + 1) ≡ suc i + 1 = omega arith in
    (ap (λ t. b ∷ t) next.0 ∙ ap (λ (n : ℕ). ended (take (suc i) (b ∷ text)) ++ drop n (b ∷ text)) e, (none 0 (omega arith), next.1))

-- a word in front of a space or of the end
pub word_behind : (rest words text more : List ℕ) (b : ℕ) → rest ≡ b ∷ words → bytes_eq (take (length text) words) text ≡ true → more ≡ drop (length text) words → length more + length text ≡ length words → ((k : ℕ) → k < length text → get_or text k 0 ≢ 32) → (length more ≡ 0) ⊎ (get_or more 0 0 ≡ 32) → left rest ≡ text ∷ left more
word_behind rest words text more b is same behind long none ends =
    let front : take (length text) words ≡ text = (bytes_eq-Decides (take (length text) words) text).0 same in
    rw (is, behind) (first_part_is words 32 (length text) (omega (arith, long)) (λ k low e. none k low (sym (ap (λ (t : List ℕ). get_or t k 0) front) ∙ (get_or-take (length text) words k 0 low ∙ e))) (end ends)
    ∙ ap (λ (t : List ℕ). t ∷ left (drop (length text) words)) front)
  where
    at_end : length text + 0 ≡ length text
    at_end = omega arith

    end : (length more ≡ 0) ⊎ (get_or more 0 0 ≡ 32) → (length text ≡ length words) ⊎ (get_or words (length text) 0 ≡ 32)
    end (inl done) = inl (omega (arith, long, done))
    end (inr next) = inr (sym (ap (λ i. get_or words i 0) at_end) ∙ (sym (get_or-drop (length text) words 0 0) ∙ (sym (ap (λ (t : List ℕ). get_or t 0 0) behind) ∙ next)))

-- what follows a word that stands first
pub after_same : (text : List ℕ) (words ws : Words) → words ≡ text ∷ ws → Some ws ≡ after_word text words
after_same text words ws is = rw (is, (bytes_eq-Decides text text).1 refl) refl

-- one part more is read
pub read_more : {A : Type 0} (read : List ℕ → Option A) (done new : List A) (words ws : Words) (w : List ℕ) (x : A) (whole : Option (List A)) → words ≡ w ∷ ws → Some x ≡ read w → new ≡ done ++ (x ∷ []) → option_map (λ more. done ++ more) (all_of read words) ≡ whole → option_map (λ more. new ++ more) (all_of read ws) ≡ whole
read_more read done new words ws w x whole next is grown before = rw grown (by (all_of read ws) (rw (next, sym is) at before))
  where
    by : (o : Option (List _)) → option_map (λ more. done ++ more) (option_map (λ xs. x ∷ xs) o) ≡ whole → option_map (λ more. (done ++ (x ∷ [])) ++ more) o ≡ whole
    by None e = e
    by (Some xs) e = ap Some (append_assoc done (x ∷ []) xs) ∙ e

-- all routes are read, and are few
pub routes_read : (word : List ℕ) (routes : List (List ℕ)) (words : Words) → word_at words ≡ None → option_map (λ more. routes ++ more) (all_of (list_of place_of) words) ≡ all_of (list_of place_of) (parts 47 word) → length routes ≤ 8 → Some routes ≡ routes_spelled word
unfolding routes_spelled
routes_read word routes [] none all few = rw (sym all, append-nil routes, le-leb (length routes) 8 few) refl
routes_read word routes (w ∷ ws) none all few = absurd (cc none)

-- there was room for one route more
pub still_few : (old new : List (List ℕ)) (route : List ℕ) → ltb (length old) 8 ≡ true → new ≡ old ++ (route ∷ []) → length new ≤ 8
still_few old new route room grown =
    let long = length-append old (route ∷ []) in
    let below = ltb-true (length old) 8 room in
    rw grown (omega (arith, long, below))
