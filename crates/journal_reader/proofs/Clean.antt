-- Words hold no space and no line feed.
use Rattle.std.proofs.Common.{◌≡◌, ◌∙◌, ◌<◌, ◌≤◌, ◌+◌, ◌/◌, ◌%◌, ◌∷◌, ◌++◌, [], ℕ, zero, suc, List, Option, Some, None, Bool, true, false, cond, eqb, ltb, refl, ap, sym, arith, map, get_or, inl, inr}
use Rattle.std.specs.Prelude.{codes, flat_map, not}
use Rattle.std.specs.Fmt.{decimal, digits, digits_onto, digit_glyph}
use Rattle.std.specs.List.{All, AllByRecursion, list_all, slice_split}
use Rattle.std.specs.Str.{bytes_eq}
use Rattle.std.specs.Cmp.{first_so, second_so}
use Rattle.std.proofs.lemmas.Bool.{cases_eq, eq-eqb, lt-ltb, ltb-true, ne_eqb, not-true}
use Rattle.std.proofs.lemmas.Bool.Decides.{nat_tests}
use Rattle.std.proofs.lemmas.Slice.Eq.{bytes_eq-Decides}
use Rattle.std.proofs.lemmas.Nat.{mod_below}
use Rattle.std.proofs.lemmas.List.{append-nil}
use Rattle.std.proofs.lemmas.List.Elements.{All-from_get_or, All-weaker}
use Rattle.std.proofs.lemmas.List.Folds.{list_all-append}
use Rattle.std.proofs.lemmas.List.Splits.{slice_split_at, slice_split_none}
use Rattle.std.proofs.lemmas.List.Sums.{AllPass-from_list_all, list_all-from_AllPass}
use Rattle.permit_days.specs.Days.{day_of_month as day_in_month, has_shape, is_day, month_of, year_of}
use Rattle.permit_days.proofs.Shapes.{IsShaped, shaped}
use Rattle.journal_text.specs.Words.{Words, index, joined, list_text, routes_text, spaced}
use Rattle.journal_reader.specs.Words.{all_of, left, list_of, parts}
use Rattle.journal_reader.specs.Fits.{FitsDay}

-- each byte has a property
pub all_append : (P : ℕ → Bool) (xs ys : List ℕ) → list_all P xs ≡ true → list_all P ys ≡ true → list_all P (xs ++ ys) ≡ true
all_append P xs ys h k = rw (list_all-append P xs ys, h) k

-- a property that each digit has
abbrev pub Digits : (ℕ → Bool) → Type 0
Digits P = (b : ℕ) → 48 ≤ b → b ≤ 57 → P b ≡ true

onto_all : (P : ℕ → Bool) → Digits P → (k n : ℕ) (acc : List ℕ) → list_all P acc ≡ true → list_all P (digits_onto k 10 false n acc) ≡ true
onto_all P p zero n acc h = h
onto_all P p (suc k) n acc h = by (eqb (n / 10) 0) (onto_all P p k (n / 10) (digit_glyph false (n % 10) ∷ acc))
  where
    glyph : (d : ℕ) → d < 10 → P (digit_glyph false d) ≡ true
    glyph d low = p (digit_glyph false d) (grind (arith, nat_tests)) (grind (arith, nat_tests))

    first : list_all P (digit_glyph false (n % 10) ∷ acc) ≡ true
    first = rw (glyph (n % 10) (mod_below n 10 (omega arith))) h

    by : (b : Bool) → (list_all P (digit_glyph false (n % 10) ∷ acc) ≡ true → list_all P (digits_onto k 10 false (n / 10) (digit_glyph false (n % 10) ∷ acc)) ≡ true)
        → list_all P (cond b (digit_glyph false (n % 10) ∷ acc) (digits_onto k 10 false (n / 10) (digit_glyph false (n % 10) ∷ acc))) ≡ true
    by true more = first
    by false more = more first

pub decimal_all : (P : ℕ → Bool) → Digits P → (n : ℕ) → list_all P (decimal n) ≡ true
unfolding digits
decimal_all P p n = onto_all P p 64 n [] refl

pub joined_all : {A : Type 0} (P : ℕ → Bool) (sep : ℕ) (text : A → List ℕ) → P sep ≡ true → ((x : A) → list_all P (text x) ≡ true) → (xs : List A) → list_all P (joined sep text xs) ≡ true
joined_all P sep text s t [] = refl
joined_all P sep text s t (x ∷ xs) = all_append P (text x) _ (t x) (rest xs)
  where
    rest : (ys : List _) → list_all P (flat_map (λ y. sep ∷ text y) ys) ≡ true
    rest [] = refl
    rest (y ∷ ys) = rw s (all_append P (text y) _ (t y) (rest ys))

-- a byte of a word
abbrev pub is_dark : ℕ → Bool
is_dark b = ltb 32 b

abbrev pub is_word : List ℕ → Bool
is_word w = list_all is_dark w

abbrev pub all_words : Words → Bool
all_words ws = list_all is_word ws

dark : Digits is_dark
dark b h k = grind (arith, nat_tests)

pub word_number : (n : ℕ) → is_word (decimal n) ≡ true
word_number n = decimal_all is_dark dark n

pub word_index : (i : ℕ) → is_word (index i) ≡ true
word_index i = word_number (i + 1)

pub word_numbers : (xs : List ℕ) → is_word (list_text decimal xs) ≡ true
word_numbers [] = refl
word_numbers (x ∷ xs) = joined_all is_dark 44 decimal refl word_number (x ∷ xs)

pub word_indices : (xs : List ℕ) → is_word (list_text index xs) ≡ true
word_indices [] = refl
word_indices (x ∷ xs) = joined_all is_dark 44 index refl word_index (x ∷ xs)

pub word_routes : (routes : List (List ℕ)) → is_word (routes_text routes) ≡ true
word_routes routes = joined_all is_dark 47 (list_text index) refl word_indices routes

pub word_day : (day : List ℕ) → FitsDay day → is_word day ≡ true
word_day day h = list_all-from_AllPass is_dark day (All-from_get_or (λ b. is_dark b ≡ true) day 0 (λ i low. lt-ltb 32 (get_or day i 0) (byte i (omega (arith, low, s.long)))))
  where
    s : IsShaped day
    s = shaped day (first_so (has_shape day) (is_day (year_of day) (month_of day) (day_in_month day)) h)

    byte : (i : ℕ) → i < 10 → 32 < get_or day i 0
    byte i low = elim (cases_eq i 4) [
      | inl is ↦ (let e : get_or day i 0 ≡ 45 = ap (λ (n : ℕ). get_or day n 0) is ∙ s.first_dash in omega (arith, e))
      | inr not4 ↦ elim (cases_eq i 7) [
        | inl is ↦ (let e : get_or day i 0 ≡ 45 = ap (λ (n : ℕ). get_or day n 0) is ∙ s.second_dash in omega (arith, e))
        | inr not7 ↦ (let e = s.digits i low not4 not7 in omega (arith, e.0))
      ]
    ]

-- no separator
abbrev pub is_no : ℕ → ℕ → Bool
is_no sep b = not (eqb b sep)

pub no_digit : (sep : ℕ) → sep < 48 → (n : ℕ) → list_all (is_no sep) (decimal n) ≡ true
no_digit sep s n = decimal_all (is_no sep) (λ b low high. rw (ne_eqb b sep (λ e. omega arith)) refl) n

pub keeps : (sep : ℕ) (xs : List ℕ) → list_all (is_no sep) xs ≡ true → All (λ b. eqb b sep ≡ false) xs
keeps sep xs h = All-weaker (λ b. is_no sep b ≡ true) (λ b. eqb b sep ≡ false) (λ b. not-true (eqb b sep)) xs (AllPass-from_list_all (is_no sep) xs h)

pub dark_is_no : (sep : ℕ) → sep ≤ 32 → (xs : List ℕ) → is_word xs ≡ true → list_all (is_no sep) xs ≡ true
dark_is_no sep s xs h = list_all-from_AllPass (is_no sep) xs (All-weaker (λ b. is_dark b ≡ true) (λ b. is_no sep b ≡ true) (λ b dark. rw (ne_eqb b sep (λ e. omega (arith, ltb-true 32 b dark))) refl) xs (AllPass-from_list_all is_dark xs h))

-- words that stand behind spaces are what is left
pub left_spaced : (ws : Words) → all_words ws ≡ true → left (spaced ws) ≡ ws
unfolding spaced
left_spaced [] h = refl
left_spaced (w ∷ ws) h = tail ws (left_spaced ws (second_so (is_word w) (all_words ws) h))
  where
    clean : All (λ b. eqb b 32 ≡ false) w
    clean = keeps 32 w (dark_is_no 32 (omega arith) w (first_so (is_word w) (all_words ws) h))

    tail : (vs : Words) → left (spaced vs) ≡ vs → slice_split (λ x. eqb x 32) (w ++ spaced vs) ≡ w ∷ vs
    tail [] k = ap (slice_split (λ x. eqb x 32)) (append-nil w) ∙ slice_split_none (λ x. eqb x 32) w clean
    tail (v ∷ vs) k = slice_split_at (λ x. eqb x 32) w 32 (v ++ spaced vs) clean refl ∙ ap (λ t. w ∷ t) k

-- the parts of items that are joined
pub parts_joined : {A : Type 0} (sep : ℕ) (text : A → List ℕ) → ((x : A) → list_all (is_no sep) (text x) ≡ true) → (x : A) (xs : List A) → parts sep (joined sep text (x ∷ xs)) ≡ map text (x ∷ xs)
parts_joined sep text t x [] = ap (parts sep) (append-nil (text x)) ∙ slice_split_none (λ b. eqb b sep) (text x) (keeps sep (text x) (t x))
parts_joined sep text t x (y ∷ ys) = slice_split_at (λ b. eqb b sep) (text x) sep _ (keeps sep (text x) (t x)) (eq-eqb sep sep refl) ∙ ap (λ p. text x ∷ p) (parts_joined sep text t y ys)

pub all_again : {A : Type 0} (read : List ℕ → Option A) (text : A → List ℕ) (Fits : A → Type 0) → ((x : A) → Fits x → read (text x) ≡ Some x) → (xs : List A) → AllByRecursion Fits xs → all_of read (map text xs) ≡ Some xs
all_again read text Fits r [] h = refl
all_again read text Fits r (x ∷ xs) (h, hs) = rw (r x h, all_again read text Fits r xs hs) refl

-- a list is read
pub list_again : (read : List ℕ → Option ℕ) (text : ℕ → List ℕ) (Fits : ℕ → Type 0) → ((x : ℕ) → Fits x → read (text x) ≡ Some x) → ((x : ℕ) → list_all (is_no 44) (text x) ≡ true) → read (codes "-") ≡ None → (xs : List ℕ) → AllByRecursion Fits xs → list_of read (list_text text xs) ≡ Some xs
unfolding list_of
list_again read text Fits r t dash [] h = refl
list_again read text Fits r t dash (x ∷ xs) (h, hs) = by (bytes_eq (joined 44 text (x ∷ xs)) (codes "-")) refl
  where
    cut : parts 44 (joined 44 text (x ∷ xs)) ≡ map text (x ∷ xs)
    cut = parts_joined 44 text t x xs

    by : (b : Bool) → bytes_eq (joined 44 text (x ∷ xs)) (codes "-") ≡ b → cond b (Some []) (all_of read (parts 44 (joined 44 text (x ∷ xs)))) ≡ Some (x ∷ xs)
    by false e = rw cut (all_again read text Fits r (x ∷ xs) (h, hs))
    by true e =
        let alone : map text (x ∷ xs) ≡ codes "-" ∷ [] = sym cut ∙ ap (parts 44) ((bytes_eq-Decides (joined 44 text (x ∷ xs)) (codes "-")).0 e) in
        let first : text x ≡ codes "-" = head (text x) (map text xs) alone in
        absurd (differ x (sym (r x h) ∙ (ap read first ∙ dash)))
      where
        head : (w : List ℕ) (ws : Words) → w ∷ ws ≡ codes "-" ∷ [] → w ≡ codes "-"
        head w ws q = cc

        differ : (y : ℕ) → Some y ≡ None → ⊥
        differ y q = cc
