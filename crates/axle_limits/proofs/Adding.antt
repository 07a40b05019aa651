-- Findings as the loops add them.
use Rattle.std.proofs.Common.{◌≡◌, ℕ, suc, ◌+◌, ◌-◌, ◌≤◌, List, [], ◌∷◌, ◌++◌, length, map, append_assoc, arith, sym, ap, ◌∙◌}
use Rattle.std.specs.List.{range_with_len}
use Rattle.std.proofs.lemmas.List.FromFn.{map-range_with_len_more}
use Rattle.axle_train.specs.declared.axle.Axle.{Axle}
use Rattle.axle_limits.specs.declared.finding.Finding.{Finding}
use Rattle.axle_limits.specs.Groups.{group_at, groups_from, groups_of}
use Rattle.axle_limits.specs.Findings.{over_limit, gross_finding, findings_of}
use Rattle.axle_limits.proofs.Lists.{flat_map_more}
use Rattle.axle_limits.proofs.Groups.{groups_within}
use Rattle.axle_limits.proofs.Listing.{over_limit-append}

-- one group more of a row
pub row_more : (axles : List Axle) (i j : ℕ) (old list next : List Finding) → i ≤ j
    → list ≡ old ++ over_limit axles (map (λ j. group_at axles i j) (range_with_len i (j - i)))
    → next ≡ list ++ over_limit axles (group_at axles i j ∷ [])
    → next ≡ old ++ over_limit axles (map (λ j. group_at axles i j) (range_with_len i (j + 1 - i)))
row_more axles i j old list next ordered so_far added =
    let row = λ (n : ℕ). map (λ j. group_at axles i j) (range_with_len i n) in
    let count : j - i + 1 ≡ j + 1 - i = omega (arith, ordered) in
    let more : row (j - i) ++ group_at axles i j ∷ [] ≡ row (j + 1 - i) = sym (map-range_with_len_more (λ j. group_at axles i j) i (j - i) j (omega (arith, ordered))) ∙ ap row count in
    added ∙ ap (λ t. t ++ over_limit axles (group_at axles i j ∷ [])) so_far
    ∙ append_assoc old (over_limit axles (row (j - i))) (over_limit axles (group_at axles i j ∷ []))
    ∙ ap (λ t. old ++ t) (sym (over_limit-append axles (row (j - i)) (group_at axles i j ∷ [])) ∙ ap (over_limit axles) more)

-- one row more
pub rows_more : (axles : List Axle) (i : ℕ) (list next : List Finding) → list ≡ over_limit axles (groups_within axles 0 i)
    → next ≡ list ++ over_limit axles (groups_from axles i) → next ≡ over_limit axles (groups_within axles 0 (i + 1))
rows_more axles i list next so_far added =
    let count : suc i ≡ i + 1 = omega arith in
    let first : 0 + i ≡ i = omega arith in
    let more : groups_within axles 0 i ++ groups_from axles i ≡ groups_within axles 0 (i + 1) =
    ap (λ n. groups_within axles 0 i ++ groups_from axles n) (sym first) ∙ sym (flat_map_more (λ n. groups_from axles n) 0 i) ∙ ap (groups_within axles 0) count in
    added ∙ ap (λ t. t ++ over_limit axles (groups_from axles i)) so_far ∙ sym (over_limit-append axles (groups_within axles 0 i) (groups_from axles i))
    ∙ ap (over_limit axles) more

-- all rows, and the gross weight
pub all_rows : (axles : List Axle) (i : ℕ) (groups list : List Finding) → i ≤ length axles → length axles ≤ i
    → groups ≡ over_limit axles (groups_within axles 0 i) → list ≡ groups ++ gross_finding axles → list ≡ findings_of axles
unfolding groups_of
all_rows axles i groups list low high rows all =
    let end : i ≡ length axles = omega (arith, low, high) in
    all ∙ ap (λ t. t ++ gross_finding axles) (rows ∙ ap (λ n. over_limit axles (groups_within axles 0 n)) end)
