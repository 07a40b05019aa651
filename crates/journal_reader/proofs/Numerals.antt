-- The number that a word spells.
use Rattle.std.proofs.Common.{◌≡◌, ◌≢◌, ◌∙◌, ◌<◌, ◌≤◌, ◌+◌, ◌*◌, ◌-◌, ◌^◌, ◌∷◌, [], ℕ, zero, suc, List, Some, None, Bool, true, false, cond, ltb, refl, ap, sym, subst, arith, length, get_or, take, drop, rules, lit<, eqb, inl, inr, ◌⊎◌, length-drop}
use Rattle.std.specs.Prelude.{◌&&◌, min}
use Rattle.std.specs.Fmt.{decimal}
use Rattle.std.specs.Str.{bytes_eq}
use Rattle.std.specs.Str.Parse.{AllDigits, digits_value}
use Rattle.std.proofs.lemmas.Fmt.{decimal-digits_value, decimal_is_IsNumeral_wide}
use Rattle.std.proofs.lemmas.Str.Parse.{IsNumeralModel, digit_at, digits_value_short, numerals_by_fold, tells_digits}
use Rattle.std.specs.List.{slice_split}
use Rattle.std.proofs.lemmas.List.{get_or-drop, get_or-take, length-take}
use Rattle.std.proofs.lemmas.Slice.Eq.{bytes_eq-Decides}
use Rattle.std.proofs.lemmas.Bool.{false≢true, lt-ltb, ltb-true}
use Rattle.journal_reader.specs.Words.{number_spelled, parts_left, value_from}
use Rattle.journal_reader.proofs.Pieces.{first_part_is}

own : IsNumeralModel (AllDigits 10) (value_from 0)
own = numerals_by_fold _ tells_digits value_from (search rules)

value_suc : (xs : List ℕ) (n i : ℕ) → i < length xs → value_from n (take (suc i) xs) ≡ value_from n (take i xs) * 10 + (get_or xs i 0 - 48)
value_suc [] n i h = absurd (omega arith)
value_suc (x ∷ xs) n zero h = refl
value_suc (x ∷ xs) n (suc i) h = value_suc xs (n * 10 + (x - 48)) i (omega arith)

pub value_step : (xs : List ℕ) (n i : ℕ) → i < length xs → value_from n (take (i + 1) xs) ≡ value_from n (take i xs) * 10 + (get_or xs i 0 - 48)
value_step xs n i h = let e : i + 1 ≡ suc i = omega arith in ap (λ k. value_from n (take k xs)) e ∙ value_suc xs n i h

-- the loop's number, cut off at most, is the number, where its text is the word
pub number_yes : (most : ℕ) (word : List ℕ) (value : ℕ) → most < 10 ^ 64 → value ≤ most → decimal value ≡ word → number_spelled (most + 1) word ≡ Some value
unfolding number_spelled
number_yes most word value small below same =
    let v : digits_value 10 word ≡ value = ap (digits_value 10) (sym same) ∙ (decimal_is_IsNumeral_wide value (omega arith)).1 in
    rw (v, (bytes_eq-Decides (decimal value) word).1 same, lt-ltb value (most + 1) (omega arith)) refl

pub number_no : (most : ℕ) (word : List ℕ) (value : ℕ) → most < 10 ^ 64 → value ≡ min (value_from 0 word) most → (decimal value ≡ word → ⊥) → number_spelled (most + 1) word ≡ None
unfolding number_spelled
number_no most word value small is other = by (bytes_eq (decimal (digits_value 10 word)) word) (ltb (digits_value 10 word) (most + 1)) refl refl
  where
    by : (a b : Bool) → bytes_eq (decimal (digits_value 10 word)) word ≡ a → ltb (digits_value 10 word) (most + 1) ≡ b → cond (a && b) (Some (digits_value 10 word)) None ≡ None
    by false b p q = refl
    by true false p q = refl
    by true true p q =
        let n : ℕ = digits_value 10 word in
        let text : decimal n ≡ word = (bytes_eq-Decides (decimal n) word).0 p in
        let low : n < most + 1 = ltb-true n (most + 1) q in
        let digits : AllDigits 10 word = subst (AllDigits 10) text (decimal_is_IsNumeral_wide n (omega arith)).0.1 in
        let v : value_from 0 word ≡ n = own.same word digits in
        let same : value ≡ n = omega arith in
        absurd (other (ap decimal same ∙ text))

-- one digit more
pub value_more : (most : ℕ) (xs : List ℕ) (i value ten digit next : ℕ) → i < length xs → value ≡ min (value_from 0 (take i xs)) most → ten ≡ min (value * 10) most → digit ≡ get_or xs i 0 - 48 → next ≡ min (ten + digit) most → next ≡ min (value_from 0 (take (i + 1) xs)) most
value_more most xs i value ten digit next h a b c d = rw (value_step xs 0 i h) (omega arith)

-- what is read of a word
pub number_is : (most : ℕ) (word : List ℕ) (value : ℕ) (b : Bool) → most < 10 ^ 64 → value ≡ min (value_from 0 word) most → b ≡ bytes_eq (decimal value) word → (b ≡ true → Some value ≡ number_spelled (most + 1) word) × (b ≡ false → None ≡ number_spelled (most + 1) word)
number_is most word value b small is test = (λ yes. sym (number_yes most word value small (omega arith) ((bytes_eq-Decides (decimal value) word).0 (sym test ∙ yes))), λ no. sym (number_no most word value small is (λ e. false≢true (sym no ∙ (test ∙ (bytes_eq-Decides (decimal value) word).1 e)))))

-- digits with no zero in front of others spell their number
pub digits_spell : (word : List ℕ) (n : ℕ) → AllDigits 10 word → 0 < length word → (get_or word 0 0 ≡ 48 → length word ≡ 1) → n ≡ value_from 0 word → n ≤ 4294967295 → (Some n ≡ number_spelled (2 ^ 32) word) × (word ≡ decimal n)
digits_spell word n all some alone is small =
    let same : decimal n ≡ word = ap decimal is ∙ decimal-digits_value own word all some alone (omega arith) in
    (sym (number_yes 4294967295 word n (lit< tt) small same), sym same)

-- one digit more
pub one_digit_more : (xs : List ℕ) (i : ℕ) → i < length xs → AllDigits 10 (take i xs) → 48 ≤ get_or xs i 0 → get_or xs i 0 ≤ 57 → AllDigits 10 (take (i + 1) xs)
one_digit_more xs i h all low high = let e : i + 1 ≡ suc i = omega arith in subst (λ k. AllDigits 10 (take k xs)) (sym e) (by xs i h all low high)
  where
    by : (xs : List ℕ) (i : ℕ) → i < length xs → AllDigits 10 (take i xs) → 48 ≤ get_or xs i 0 → get_or xs i 0 ≤ 57 → AllDigits 10 (take (suc i) xs)
    by [] i h all low high = absurd (omega arith)
    by (x ∷ xs) zero h all low high = tells_digits.more x [] (low, high) tells_digits.empty
    by (x ∷ xs) (suc i) h (first, all) low high = (first, by xs i (omega arith) all low high)

-- nine digits are a number of nine digits
pub nine_digits : (xs : List ℕ) (i n : ℕ) → i ≤ 9 → AllDigits 10 (take i xs) → n ≡ value_from 0 (take i xs) → n < 10 ^ 9
nine_digits xs i n few all is = let short : length (take i xs) ≤ 9 = simp length-take (omega arith) in rw is (digits_value_short own (take i xs) 9 all short)

-- digits up to a separator, which is none, or to the end are a part
pub digits_are_part : (text word rest : List ℕ) (sep at : ℕ) → sep < 48 → at ≤ length text → word ≡ take at text → rest ≡ drop at text → AllDigits 10 (take at text) → (length rest ≡ 0) ⊎ (get_or rest 0 0 ≡ sep)
    → slice_split (λ x. eqb x sep) text ≡ word ∷ parts_left sep rest
digits_are_part text word rest sep at low within is_word is_rest all ends = rw (is_word, is_rest) (first_part_is text sep at within none (end (rw is_rest at ends)))
  where
    none : (k : ℕ) → k < at → get_or text k 0 ≢ sep
    none k before e =
        let long : k < length (take at text) = simp length-take (omega arith) in
        let digit = digit_at (take at text) k all long in
        let same = get_or-take at text k 0 before in
        omega (arith, digit, same)

    end : (length (drop at text) ≡ 0) ⊎ (get_or (drop at text) 0 0 ≡ sep) → (at ≡ length text) ⊎ (get_or text at 0 ≡ sep)
    end (inl done) = let n = length-drop at text in inl (omega (arith, n))
    end (inr next) = let e : at + 0 ≡ at = omega arith in inr (sym (ap (λ i. get_or text i 0) e) ∙ (sym (get_or-drop at text 0 0) ∙ next))
