-- Rising numbers, while others are taken out of them one after another.
use Rattle.std.proofs.Common.{◌≡◌, List, ℕ, ◌+◌, ◌<◌, ◌≤◌, Bool, true, false, not, cond, length, get_or, set, take, refl, ap, sym, ◌∙◌, arith}
use Rattle.std.specs.List.{All}
use Rattle.std.specs.List.Sorted.{IsStrictlyIncreasing}
use Rattle.std.proofs.lemmas.List.{get_or_default, get_or-drop}
use Rattle.std.proofs.lemmas.List.Elements.{All-weaker}
use Rattle.std.proofs.lemmas.List.Filters.{FiltersInPlace, FiltersInPlace-more_no, FiltersInPlace-more_set}
use Rattle.recall_index.specs.Uses.{is_in}
use Rattle.recall_index.proofs.Rising.{absent, not_falling, stay}

abbrev pub keeps : List ℕ → ℕ → Bool
keeps these n = not (is_in n these)

-- the first so many numbers are what is left of those before a place, from the place on they are as they were, and of those
-- that are taken out the first so many are below the number at the place
pub record Sifts (these xs ys : List ℕ) (kept i next : ℕ) : Type 0 where
  pub filters : FiltersInPlace (keeps these) xs ys kept i
  pub within : next ≤ length these
  pub below : i < length xs → All (λ k. k < get_or xs i 0) (take next these)

-- those below the first that is taken out stay
pub sifts_none : (these xs : List ℕ) (from : ℕ) → IsStrictlyIncreasing these → from ≤ length xs → All (λ n. n < get_or these 0 0) (take from xs) → Sifts these xs xs from from 0
sifts_none these xs from rising within below = record {
  filters = record {
    front = sym (stay (keeps these) (take from xs) (λ k d low. ap not (absent (get_or (take from xs) k d) these (λ j l e.
        let up = not_falling these rising 0 j (omega arith) l in let h : get_or (take from xs) k d < get_or these 0 0 = below k d low in omega (arith, up, h, e)))));
    rest = refl;
    behind = omega arith;
    within = within;
    long = refl;
  };
  within = omega arith;
  below = λ _ k d low. absurd (omega (arith, low));
}

-- the number at a place is as it was
pub at_place : (these xs ys : List ℕ) (kept i next n : ℕ) → Sifts these xs ys kept i next → i < length ys → n ≡ get_or ys i 0 → n ≡ get_or xs i 0
at_place these xs ys kept i next n had low is = is ∙ (ap (λ k. get_or ys k 0) here ∙ (sym (get_or-drop i ys 0 0) ∙ (ap (λ l. get_or l 0 0) had.filters.rest ∙ (get_or-drop i xs 0 0 ∙ ap (λ k. get_or xs k 0) (sym here)))))
  where
    here : i ≡ i + 0
    here = omega arith

module _ (these xs ys : List ℕ) (kept i next after n : ℕ) (up : IsStrictlyIncreasing xs) (had : Sifts these xs ys kept i next) (low : i < length ys) (is : n ≡ get_or ys i 0) where
  filters_more : (stays : Bool) → stays ≡ keeps these n → FiltersInPlace (keeps these) xs (cond stays (set ys kept n) ys) (cond stays (kept + 1) kept) (i + 1)
  filters_more true e = FiltersInPlace-more_set had.filters low (sym e) (is ∙ get_or_default ys i 0 n low)
  filters_more false e = FiltersInPlace-more_no had.filters low (sym e) (is ∙ get_or_default ys i 0 n low)

  pub sifts_more : (stays : Bool) → stays ≡ keeps these n → after ≤ length these → All (λ k. k < n) (take after these) → Sifts these xs (cond stays (set ys kept n) ys) (cond stays (kept + 1) kept) (i + 1) after
  sifts_more stays e within below = record {
    filters = filters_more stays e;
    within = within;
    below = λ more. (let same : n ≡ get_or xs i 0 = at_place these xs ys kept i next n had low is in
        let next_up : get_or xs i 0 < get_or xs (i + 1) 0 = up i more in
        All-weaker (λ k. k < n) (λ k. k < get_or xs (i + 1) 0) (λ k h. omega (arith, h, same, next_up)) (take after these) below);
  }
