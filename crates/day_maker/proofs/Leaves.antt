-- Names and numbers that are made, as the fields of a record.
use Rattle.std.proofs.Common.{◌≡◌, ◌∙◌, ◌<◌, ◌≤◌, ◌^◌, ◌∷◌, ◌++◌, [], ℕ, Some, true, false, eqb, refl, ap, sym, arith, length, lit<, length-append}
use Rattle.std.specs.Fmt.{decimal}
use Rattle.std.specs.List.{All, list_all, slice_split}
use Rattle.std.proofs.lemmas.Bool.{le-leb, ne_eqb}
use Rattle.std.proofs.lemmas.Fmt.{decimal_injective, decimal_is_IsNumeral, length-decimal-le}
use Rattle.std.proofs.lemmas.List.Elements.{All-from_get_or}
use Rattle.std.proofs.lemmas.List.Splits.{slice_split_at, slice_split_none}
use Rattle.std.proofs.lemmas.Str.Parse.{digit_at}
use Rattle.names.specs.Names.{is_name_byte}
use Rattle.day_text.specs.Fields.{name_field}
use Rattle.day_maker.specs.Made.{cell, numbered_name}
use Rattle.day_writer.proofs.Leaves.{digit_is_name_byte}
use Rattle.day_writer.proofs.Plain.{all_append, decimal_all}

-- the name of a place of the grid
pub cell_ok : (letter r c : ℕ) → is_name_byte letter ≡ true → r < 100 → c < 100 → name_field (cell letter r c) ≡ Some (cell letter r c)
unfolding cell
cell_ok letter r c l hr hc =
    let a : length (decimal r) ≤ 2 = length-decimal-le 2 r (lit< tt) hr (omega arith) in
    let b : length (decimal c) ≤ 2 = length-decimal-le 2 c (lit< tt) hc (omega arith) in
    let n : length (letter ∷ (decimal r ++ (45 ∷ decimal c))) ≤ 16 = simp length-append (omega arith) in
    let all : list_all is_name_byte (decimal r ++ (45 ∷ decimal c)) ≡ true = all_append is_name_byte (decimal r) (45 ∷ decimal c) (decimal_all is_name_byte digit_is_name_byte r (omega arith)) (decimal_all is_name_byte digit_is_name_byte c (omega arith)) in
    rw (le-leb 1 (length (letter ∷ (decimal r ++ (45 ∷ decimal c)))) (omega arith), le-leb (length (letter ∷ (decimal r ++ (45 ∷ decimal c)))) 16 n, l, all) refl

-- a letter and a number
pub numbered_ok : (letter n : ℕ) → is_name_byte letter ≡ true → n < 100 → name_field (numbered_name letter n) ≡ Some (numbered_name letter n)
numbered_ok letter n l h =
    let a : length (decimal n) ≤ 2 = length-decimal-le 2 n (lit< tt) h (omega arith) in
    let all : list_all is_name_byte (decimal n) ≡ true = decimal_all is_name_byte digit_is_name_byte n (omega arith) in
    rw (le-leb 1 (length (letter ∷ decimal n)) (omega arith), le-leb (length (letter ∷ decimal n)) 16 (omega arith), l, all) refl

-- one name, one place
no_dash : (n : ℕ) → n < 2 ^ 64 → All (λ b. eqb b 45 ≡ false) (decimal n)
no_dash n h = All-from_get_or (λ b. eqb b 45 ≡ false) (decimal n) 0 (λ i k. let r = digit_at (decimal n) i (decimal_is_IsNumeral n h).0.1 k in let low = r.0 in ne_eqb _ 45 (λ e. absurd (omega arith)))

pub cell_injective : (l r c l' r' c' : ℕ) → r < 100 → c < 100 → r' < 100 → c' < 100 → cell l r c ≡ cell l' r' c' → (l ≡ l') × (r ≡ r') × (c ≡ c')
unfolding cell
cell_injective l r c l' r' c' h k h' k' e =
    let head : l ≡ l' = cc in
    let tail : decimal r ++ (45 ∷ decimal c) ≡ decimal r' ++ (45 ∷ decimal c') = cc in
    let p = slice_split_at (λ b. eqb b 45) (decimal r) 45 (decimal c) (no_dash r (omega arith)) refl in
    let q = slice_split_at (λ b. eqb b 45) (decimal r') 45 (decimal c') (no_dash r' (omega arith)) refl in
    let p' = slice_split_none (λ b. eqb b 45) (decimal c) (no_dash c (omega arith)) in
    let q' = slice_split_none (λ b. eqb b 45) (decimal c') (no_dash c' (omega arith)) in
    let parts : decimal r ∷ decimal c ∷ [] ≡ decimal r' ∷ decimal c' ∷ [] = ap (λ t. decimal r ∷ t) (sym p') ∙ (sym p ∙ (ap (slice_split (λ b. eqb b 45)) tail ∙ (q ∙ ap (λ t. decimal r' ∷ t) q'))) in
    let one : decimal r ≡ decimal r' = cc (parts) in
    let two : decimal c ≡ decimal c' = cc (parts) in
    (head, decimal_injective r r' (omega arith) (omega arith) one, decimal_injective c c' (omega arith) (omega arith) two)
