-- A table that is filled from the front.
use Rattle.std.proofs.Common.{◌≡◌, ℕ, ◌+◌, ◌<◌, List, length, slice_index, slice_set, arith, ◌∙◌, inl, inr}
use Rattle.std.proofs.lemmas.Bool.{cases_lt}
use Rattle.std.proofs.lemmas.List.{get_or-set_same, get_or-set_other}

-- with one entry more, each entry so far is what f says
pub entry_more : (f : ℕ → ℕ) (xs : List ℕ) (k value : ℕ) → k < length xs → ((i : ℕ) → i < k → slice_index xs i ≡ f i) → value ≡ f k → (i : ℕ) → i < k + 1 → slice_index (slice_set xs k value) i ≡ f i
entry_more f xs k value within done here i below =
    elim (cases_lt i k) [
      | inl before ↦ get_or-set_other xs k i value 0 (λ same. omega (arith, same, before)) ∙ done i before
      | inr after ↦ let same : i ≡ k = omega arith in rw same (get_or-set_same xs k value 0 within ∙ here)
    ]
