-- What the shape of a day's text says of each byte.
use Rattle.std.proofs.Common.{◌≡◌, ◌⊎◌, ◌+◌, ◌-◌, ◌<◌, ◌≤◌, ◌≢◌, ℕ, List, Bool, true, false, length, get_or, take, drop, refl, ap, sym, inl, inr, arith, ◌∙◌, length-drop}
use Rattle.std.specs.Prelude.{◌&&◌, ◌==◌}
use Rattle.std.specs.Cmp.{first_so, second_so}
use Rattle.std.specs.Char.{is_ascii_digit}
use Rattle.std.specs.List.{list_all, slice_range}
use Rattle.std.proofs.lemmas.Bool.{cases_eq, cases_lt, false≢true}
use Rattle.std.proofs.lemmas.Bool.Decides.{nat_tests}
use Rattle.std.proofs.lemmas.List.{get_or-drop, get_or-take, length-take-le}
use Rattle.std.proofs.lemmas.List.Folds.{list_all_at}
use Rattle.permit_days.specs.Days.{digit_at, has_shape}

bit : (b : Bool) → (b ≡ true) ⊎ (b ≡ false)
bit true = inl refl
bit false = inr refl

-- an element of a list whose elements all pass
passes_at : (p : ℕ → Bool) (xs : List ℕ) (i : ℕ) → list_all p xs ≡ true → i < length xs → p (get_or xs i 0) ≡ true
passes_at p xs i all low = elim (bit (p (get_or xs i 0))) [
  | inl t ↦ t
  | inr f ↦ absurd (false≢true (sym (list_all_at p xs i 0 low f) ∙ all))
]

-- a digit between two places of a text
digit_in : (text : List ℕ) (from to i : ℕ) → list_all is_ascii_digit (slice_range text from to) ≡ true → from ≤ i → i < to → to ≤ length text → is_ascii_digit (get_or text i 0) ≡ true
digit_in text from to i all low high within =
    let k = i - from in
    let few : to - from ≤ length (drop from text) = omega (arith, length-drop from text) in
    let long : length (take (to - from) (drop from text)) ≡ to - from = length-take-le (to - from) (drop from text) few in
    let told = passes_at is_ascii_digit (take (to - from) (drop from text)) k all (omega (arith, long)) in
    let is : from + k ≡ i = omega arith in
    let here : k < to - from = omega arith in
    let read : get_or (take (to - from) (drop from text)) k 0 ≡ get_or text i 0 = get_or-take (to - from) (drop from text) k 0 here ∙ get_or-drop from text k 0 ∙ ap (λ (n : ℕ). get_or text n 0) is in
    ap is_ascii_digit (sym read) ∙ told

between : (b : ℕ) → is_ascii_digit b ≡ true → (48 ≤ b) × (b ≤ 57)
between b h = (grind (arith, nat_tests), grind (arith, nat_tests))

-- each byte of a text of that shape
pub record IsShaped (text : List ℕ) : Type 0 where
  pub long : length text ≡ 10
  pub digits : (i : ℕ) → i < 10 → i ≢ 4 → i ≢ 7 → (48 ≤ get_or text i 0) × (get_or text i 0 ≤ 57)
  pub first_dash : get_or text 4 0 ≡ 45
  pub second_dash : get_or text 7 0 ≡ 45

is_number : (a b : ℕ) → (a == b) ≡ true → a ≡ b
is_number a b h = grind (arith, nat_tests)

pub shaped : (text : List ℕ) → has_shape text ≡ true → IsShaped text
shaped text h =
    let year = list_all is_ascii_digit (slice_range text 0 4) in
    let month = list_all is_ascii_digit (slice_range text 5 7) in
    let day = list_all is_ascii_digit (slice_range text 8 10) in
    let one = length text == 10 in
    let two = get_or text 4 0 == 45 in
    let three = get_or text 7 0 == 45 in
    let h5 = first_so (one && year && two && month && three) day h in
    let h4 = first_so (one && year && two && month) three h5 in
    let h3 = first_so (one && year && two) month h4 in
    let h2 = first_so (one && year) two h3 in
    let long : length text ≡ 10 = is_number (length text) 10 (first_so one year h2) in
    record {
      long = long;
      digits = λ i low not4 not7. elim (cases_lt i 4) [
        | inl w ↦ between (get_or text i 0) (digit_in text 0 4 i (second_so one year h2) (omega arith) w (omega (arith, long)))
        | inr w ↦ elim (cases_lt i 7) [
          | inl u ↦ between (get_or text i 0) (digit_in text 5 7 i (second_so (one && year && two) month h4) (omega (arith, w, not4)) u (omega (arith, long)))
          | inr u ↦ between (get_or text i 0) (digit_in text 8 10 i (second_so (one && year && two && month && three) day h) (omega (arith, u, not7)) low (omega (arith, long)))
        ]
      ];
      first_dash = is_number (get_or text 4 0) 45 (second_so (one && year) two h3);
      second_dash = is_number (get_or text 7 0) 45 (second_so (one && year && two && month) three h5);
    }

-- no digit stands for more than nine
pub digit_at-most : (text : List ℕ) (i : ℕ) → IsShaped text → i < 10 → digit_at text i ≤ 9
digit_at-most text i h low = elim (cases_eq i 4) [
  | inl is ↦ (let e : get_or text i 0 ≡ 45 = ap (λ (n : ℕ). get_or text n 0) is ∙ h.first_dash in omega (arith, e))
  | inr not4 ↦ elim (cases_eq i 7) [
    | inl is ↦ (let e : get_or text i 0 ≡ 45 = ap (λ (n : ℕ). get_or text n 0) is ∙ h.second_dash in omega (arith, e))
    | inr not7 ↦ (let e = h.digits i low not4 not7 in omega (arith, e.0, e.1))
  ]
]
