-- The fields of a record from a place on.
use Rattle.std.proofs.Common.{◌≡◌, ◌<◌, ◌+◌, ◌∷◌, ◌∙◌, ◌&&◌, true, false, [], ℕ, zero, suc, List, length, drop, arith, refl, ap, add-one}
use Rattle.std.specs.List.{list_all}
use Rattle.csv.specs.Records.{field_at}
use Rattle.day_text.specs.Fields.{field_of}
use Rattle.day_text.specs.Records.{is_blank_from, is_empty_text}

-- the fields from a place on are the field there and those behind it
drop_field : (fields : List (List ℕ)) (i : ℕ) → i < length fields → drop i fields ≡ field_of fields i ∷ drop (suc i) fields
unfolding field_at
drop_field [] i h = absurd (omega arith)
drop_field (f ∷ fields) zero h = refl
drop_field (f ∷ fields) (suc i) h = drop_field fields i (omega arith)

blank_step : (fields : List (List ℕ)) (i : ℕ) → i < length fields → is_blank_from i fields ≡ (is_empty_text (field_of fields i) && is_blank_from (i + 1) fields)
blank_step fields i h = rw add-one (ap (list_all is_empty_text) (drop_field fields i h))

-- a field that is not empty
pub blank_no : (fields : List (List ℕ)) (i : ℕ) → i < length fields → is_empty_text (field_of fields i) ≡ false → is_blank_from i fields ≡ false
blank_no fields i h full = blank_step fields i h ∙ ap (λ b. b && is_blank_from (i + 1) fields) full

-- an empty field leaves those behind it
pub blank_yes : (fields : List (List ℕ)) (i : ℕ) → i < length fields → is_empty_text (field_of fields i) ≡ true → is_blank_from i fields ≡ is_blank_from (i + 1) fields
blank_yes fields i h empty = blank_step fields i h ∙ ap (λ b. b && is_blank_from (i + 1) fields) empty
