-- Rising numbers that stand among rising ones as one block.
use Rattle.std.proofs.Common.{◌≡◌, ◌++◌, [], List, ℕ, zero, suc, ◌+◌, ◌-◌, ◌<◌, ◌≤◌, ◌⊎◌, inl, inr, Bool, true, false, not, filter, length, get_or, take, drop, ap, sym, subst, ◌∙◌, arith}
use Rattle.std.specs.List.{between}
use Rattle.std.specs.List.Sorted.{IsStrictlyIncreasing}
use Rattle.std.proofs.lemmas.Bool.{cases_lt, true≢false}
use Rattle.std.proofs.lemmas.List.{ext_get_or, get_or_default, get_or-drop, get_or-take, length-drop, length-take}
use Rattle.std.proofs.lemmas.List.Edits.{get_or-between, length-between, split_between}
use Rattle.std.proofs.lemmas.List.Elements.{filter-append}
use Rattle.std.proofs.lemmas.List.Kept.{AllPairs-from_increasing, IsStrictlyIncreasing-filter}
use Rattle.recall_index.specs.Uses.{AreAllOrNone, IsBlock, is_in, without_each}
use Rattle.recall_index.proofs.Rising.{absent, gone, not_falling, place_in, stay, there}

module _ (all these : List ℕ) (up : IsStrictlyIncreasing all) (rising : IsStrictlyIncreasing these) (at : ℕ) (some : 0 < length these) (few : at + length these ≤ length all)
    (first : get_or all at 0 ≡ get_or these 0 0) (last : get_or all (at + (length these - 1)) 0 ≡ get_or these (length these - 1) 0) where
  -- where they stand, which is later for a later one
  record Stands (i p : ℕ) : Type 0 where
    within : p < length all
    is : get_or all p 0 ≡ get_or these i 0

  in_order : (i j p q : ℕ) → i < j → j < length these → Stands i p → Stands j q → p < q
  in_order i j p q less low one other = by (cases_lt p q)
    where
      by : (p < q) ⊎ (q ≤ p) → p < q
      by (inl h) = h
      by (inr h) = let falls = not_falling all up q p h one.within in let rises : get_or these i 0 < get_or these j 0 = AllPairs-from_increasing these rising i j 0 less low in
          let e = one.is in let f = other.is in omega (arith, falls, rises, e, f)

  module _ (place : (i : ℕ) → i < length these → (p : ℕ) × Stands i p) where
    not_before : (i p : ℕ) → i < length these → Stands i p → at + i ≤ p
    not_before zero p low one = by (cases_lt p at)
      where
        by : (p < at) ⊎ (at ≤ p) → at + 0 ≤ p
        by (inl h) = let here : at < length all = omega (arith, some, few) in let rises : get_or all p 0 < get_or all at 0 = AllPairs-from_increasing all up p at 0 h here in let e = one.is in omega (arith, rises, e, first)
        by (inr h) = omega (arith, h)
    not_before (suc i) p low one =
        let before : i < length these = omega (arith, low) in let q = place i before in
        let h = not_before i q.0 before q.1 in let less = in_order i (suc i) q.0 p (omega arith) low q.1 one in omega (arith, h, less)

    not_behind : (j p : ℕ) → j < length these → Stands (length these - 1 - j) p → p + j ≤ at + (length these - 1)
    not_behind zero p low one = by (cases_lt (at + (length these - 1)) p)
      where
        by : (at + (length these - 1) < p) ⊎ (p ≤ at + (length these - 1)) → p + 0 ≤ at + (length these - 1)
        by (inl h) = let rises : get_or all (at + (length these - 1)) 0 < get_or all p 0 = AllPairs-from_increasing all up (at + (length these - 1)) p 0 h one.within in let same : get_or these (length these - 1 - 0) 0 ≡ get_or these (length these - 1) 0 = ap (λ k. get_or these k 0) (omega arith) in
            let e = one.is in omega (arith, rises, e, same, last)
        by (inr h) = omega (arith, h)
    not_behind (suc j) p low one =
        let next : length these - 1 - j < length these = omega (arith, some) in let q = place (length these - 1 - j) next in
        let h = not_behind j q.0 (omega (arith, low)) q.1 in
        let less = in_order (length these - 1 - suc j) (length these - 1 - j) p q.0 (omega (arith, low)) next one q.1 in omega (arith, h, less)

    in_turn : (i : ℕ) → i < length these → get_or all (at + i) 0 ≡ get_or these i 0
    in_turn i low = let p = place i low in
        let from : at + i ≤ p.0 = not_before i p.0 low p.1 in
        let back : length these - 1 - (length these - 1 - i) ≡ i = omega (arith, low) in
        let to : p.0 + (length these - 1 - i) ≤ at + (length these - 1) = not_behind (length these - 1 - i) p.0 (omega (arith, some)) (rw back p.1) in
        let same : at + i ≡ p.0 = omega (arith, from, to, low) in ap (λ k. get_or all k 0) same ∙ p.1.is

    one_block : IsBlock these all at
    one_block = let long : length (between at (at + length these) all) ≡ length these = omega (arith, length-between all at (at + length these) few) in record {
      within = few;
      stands = ext_get_or 0 (between at (at + length these) all) these long (λ i low. let here : i < length these = omega (arith, low, long) in
          get_or-between all at (at + length these) i 0 (omega (arith, here)) ∙ in_turn i here);
    }

  -- where all of them are among rising ones or none is, and as many lie from the first of them to the last, they are one block
  pub block_from_ends : AreAllOrNone these all → IsBlock these all at
  block_from_ends (true, among) = one_block (λ i low. let h = place_in (get_or these i 0) all (among i 0 low) in (h.0, record { within = h.1; is = h.2 }))
  block_from_ends (false, none) = absurd (true≢false (sym (there (get_or these 0 0) all at (omega (arith, some, few)) first) ∙ none 0 0 some))

-- rising numbers without a block of them are what stands before it and behind it
pub without_block : (these all : List ℕ) (at : ℕ) → IsStrictlyIncreasing all → IsBlock these all at → take at all ++ drop (at + length these) all ≡ without_each these all
without_block these all at up block = sym (
    ap (filter keeps) (split_between all at end (omega arith)) ∙ (filter-append keeps (take at all) (between at end all ++ drop end all)
    ∙ (ap (λ l. l ++ filter keeps (between at end all ++ drop end all)) front ∙ ap (λ l. take at all ++ l) (filter-append keeps (between at end all) (drop end all)
    ∙ (ap (λ l. l ++ filter keeps (drop end all)) mid ∙ back)))))
  where
    end : ℕ
    end = at + length these

    keeps : ℕ → Bool
    keeps n = not (is_in n these)

    stands : (j : ℕ) → j < length these → get_or these j 0 ≡ get_or all (at + j) 0
    stands j low = ap (λ l. get_or l j 0) (sym block.stands) ∙ get_or-between all at end j 0 (omega (arith, low))

    outside : (k : ℕ) → k < length all → (k < at) ⊎ (end ≤ k) → is_in (get_or all k 0) these ≡ false
    outside k low side = absent (get_or all k 0) these (λ j l e. by j l (sym (stands j l) ∙ e) side)
      where
        by : (j : ℕ) → j < length these → get_or all (at + j) 0 ≡ get_or all k 0 → (k < at) ⊎ (end ≤ k) → ⊥
        by j l e (inl before) = let within = block.within in let less : get_or all k 0 < get_or all (at + j) 0 = AllPairs-from_increasing all up k (at + j) 0 (omega (arith, before)) (omega (arith, l, within)) in omega (arith, less, e)
        by j l e (inr behind) = let less : get_or all (at + j) 0 < get_or all k 0 = AllPairs-from_increasing all up (at + j) k 0 (omega (arith, l, behind)) low in omega (arith, less, e)

    front : filter keeps (take at all) ≡ take at all
    front = stay keeps (take at all) (λ k d h. let before : k < at = omega (arith, h, length-take at all) in let low : k < length all = omega (arith, h, length-take at all) in
        ap (λ n. not (is_in n these)) (get_or-take at all k d before ∙ get_or_default all k d 0 low) ∙ ap not (outside k low (inl before)))

    mid : filter keeps (between at end all) ≡ []
    mid = ap (filter keeps) block.stands ∙ gone keeps these (λ j d low. ap not (there (get_or these j d) these j low (get_or_default these j 0 d low)))

    back : filter keeps (drop end all) ≡ drop end all
    back = stay keeps (drop end all) (λ k d h. let low : end + k < length all = omega (arith, h, length-drop end all) in
        ap (λ n. not (is_in n these)) (get_or-drop end all k d ∙ get_or_default all (end + k) d 0 low) ∙ ap not (outside (end + k) low (inr (omega arith))))

-- and what is left rises
pub left_rises : (these all left : List ℕ) → IsStrictlyIncreasing all → left ≡ without_each these all → IsStrictlyIncreasing left
left_rises these all left up is = subst IsStrictlyIncreasing (sym is) (IsStrictlyIncreasing-filter (λ n. not (is_in n these)) all up)
