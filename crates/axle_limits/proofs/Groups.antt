-- The list of all groups: what is in it, and in which order.
use Rattle.std.proofs.Common.{◌≡◌, ℕ, zero, suc, ◌+◌, ◌-◌, ◌<◌, ◌≤◌, List, ◌++◌, length, get_or, Bool, true, All, Contains, AllPairs, flat_map, arith, refl, inl, inr, subst}
use Rattle.std.specs.List.{range_with_len, list_all}
use Rattle.std.proofs.lemmas.Bool.{cases_lt}
use Rattle.std.proofs.lemmas.List.Elements.{All-nil, All-append, All-contains, Contains-append_left, Contains-append_right}
use Rattle.std.proofs.lemmas.List.FromFn.{get_or-map-range_with_len, length-map-range_with_len}
use Rattle.std.proofs.lemmas.List.Sums.{AllPass-from_list_all, list_all-from_AllPass}
use Rattle.axle_train.specs.declared.axle.Axle.{Axle}
use Rattle.axle_limits.specs.declared.worst_group.WorstGroup.{WorstGroup}
use Rattle.axle_limits.specs.Groups.{group_at, groups_from, groups_of, IsGroup, IsEarlierGroup, GroupsAreListed}
use Rattle.axle_limits.proofs.Lists.{pairs_append}

-- the groups of n first axles, from axle a on
abbrev pub groups_within : List Axle → ℕ → ℕ → List WorstGroup
groups_within axles a n = flat_map (λ i. groups_from axles i) (range_with_len a n)

row_length : (axles : List Axle) (i : ℕ) → length (groups_from axles i) ≡ length axles - i
row_length axles i = length-map-range_with_len (λ j. group_at axles i j) i (length axles - i)

row_at : (axles : List Axle) (i k : ℕ) (d : WorstGroup) → k < length axles - i → get_or (groups_from axles i) k d ≡ group_at axles i (i + k)
row_at axles i k d h = get_or-map-range_with_len (λ j. group_at axles i j) i (length axles - i) k (i + k) d h refl

-- what each group of a row has
row_all : (P : WorstGroup → Type 0) (axles : List Axle) (i : ℕ) → ((j : ℕ) → i ≤ j → j < length axles → P (group_at axles i j)) → All P (groups_from axles i)
row_all P axles i each k d h =
    let inside : k < length axles - i = omega (arith, h, row_length axles i) in
    rw (row_at axles i k d inside) (each (i + k) (omega arith) (omega (arith, inside)))

rows_all : (P : WorstGroup → Type 0) (axles : List Axle) (a n : ℕ) → ((i j : ℕ) → a ≤ i → i ≤ j → j < length axles → P (group_at axles i j)) → All P (groups_within axles a n)
rows_all P axles a zero each = All-nil P
rows_all P axles a (suc n) each =
    All-append P (groups_from axles a) (groups_within axles (a + 1) n) (row_all P axles a (λ j. each a j (omega arith)))
    (rows_all P axles (a + 1) n (λ i j h. each i j (omega (arith, h))))

row_contains : (axles : List Axle) (i j : ℕ) → i ≤ j → j < length axles → Contains (groups_from axles i) (group_at axles i j)
row_contains axles i j ordered within = (
  j - i,
  omega (arith, row_length axles i, ordered, within),
  get_or-map-range_with_len (λ j. group_at axles i j) i (length axles - i) (j - i) j (group_at axles i j) (omega (arith, ordered, within)) (omega (arith, ordered)),
)

rows_contain : (axles : List Axle) (a n i j : ℕ) → a ≤ i → i < a + n → i ≤ j → j < length axles → Contains (groups_within axles a n) (group_at axles i j)
rows_contain axles a zero i j from to ordered within = absurd (omega (arith, from, to))
rows_contain axles a (suc n) i j from to ordered within = elim (cases_lt a i) [
  | inl later ↦ Contains-append_right (groups_from axles a) (groups_within axles (a + 1) n) (group_at axles i j)
      (rows_contain axles (a + 1) n i j (omega (arith, later)) (omega (arith, to)) ordered within)
  | inr first ↦ (let same : i ≡ a = omega (arith, from, first) in
      subst (λ t. Contains (groups_from axles t ++ groups_within axles (a + 1) n) (group_at axles i j)) same
      (Contains-append_left (groups_from axles i) (groups_within axles (a + 1) n) (group_at axles i j) (row_contains axles i j ordered within)))
]

row_rises : (axles : List Axle) (i : ℕ) → AllPairs IsEarlierGroup (groups_from axles i)
row_rises axles i k m d before inside =
    let last : m < length axles - i = omega (arith, inside, row_length axles i) in
    let first : k < length axles - i = omega (arith, last, before) in
    rw (row_at axles i k d first, row_at axles i m d last) (inr (refl, omega (arith, before)))

rows_rise : (axles : List Axle) (a n : ℕ) → AllPairs IsEarlierGroup (groups_within axles a n)
rows_rise axles a zero = λ k m d before inside. absurd (omega (arith, before, inside))
rows_rise axles a (suc n) =
    pairs_append IsEarlierGroup (groups_from axles a) (groups_within axles (a + 1) n) (row_rises axles a) (rows_rise axles (a + 1) n) (λ x y in_row in_rows.
    let here : x.i ≡ a = All-contains (λ g. g.i ≡ a) (groups_from axles a) x (row_all (λ g. g.i ≡ a) axles a (λ j ordered within. refl)) in_row in
    let there : a + 1 ≤ y.i = All-contains (λ g. a + 1 ≤ g.i) (groups_within axles (a + 1) n) y (rows_all (λ g. a + 1 ≤ g.i) axles (a + 1) n (λ i j from ordered within. from)) in_rows in
    inl (omega (arith, here, there)))

-- a group is the axles that it names
pub group_is : (axles : List Axle) (g : WorstGroup) → IsGroup axles g → group_at axles g.i g.j ≡ g
group_is axles g is = rw (← is.weight_is, ← is.limit_is) refl

-- what each group has
pub groups_all : (P : WorstGroup → Type 0) (axles : List Axle) → ((i j : ℕ) → i ≤ j → j < length axles → P (group_at axles i j)) → All P (groups_of axles)
unfolding groups_of
groups_all P axles each = rows_all P axles 0 (length axles) (λ i j from. each i j)

pub groups_contain : (axles : List Axle) (i j : ℕ) → i ≤ j → j < length axles → Contains (groups_of axles) (group_at axles i j)
unfolding groups_of
groups_contain axles i j ordered within = rows_contain axles 0 (length axles) i j (omega arith) (omega (arith, ordered, within)) ordered within

pub groups_rise : (axles : List Axle) → AllPairs IsEarlierGroup (groups_of axles)
unfolding groups_of
groups_rise axles = rows_rise axles 0 (length axles)

-- what is in the list is a group
pub group_from : (axles : List Axle) (g : WorstGroup) → Contains (groups_of axles) g → IsGroup axles g
group_from axles g there = All-contains (IsGroup axles) (groups_of axles) g (groups_all (IsGroup axles) axles (λ i j ordered within. record {
  ordered = ordered;
  within = within;
  weight_is = refl;
  limit_is = refl;
})) there

-- the list has all groups in order
pub groups_are_listed : GroupsAreListed
groups_are_listed axles = record {
  listed = λ g. (group_from axles g, λ is. subst (Contains (groups_of axles)) (group_is axles g is) (groups_contain axles g.i g.j is.ordered is.within));
  rising = groups_rise axles;
}

-- a test that every group passes
pub all_groups : (p : WorstGroup → Bool) (axles : List Axle) → ((i j : ℕ) → i ≤ j → j < length axles → p (group_at axles i j) ≡ true) → list_all p (groups_of axles) ≡ true
all_groups p axles each = list_all-from_AllPass p (groups_of axles) (groups_all (λ g. p g ≡ true) axles each)

pub each_group : (p : WorstGroup → Bool) (axles : List Axle) (i j : ℕ) → list_all p (groups_of axles) ≡ true → i ≤ j → j < length axles → p (group_at axles i j) ≡ true
each_group p axles i j all ordered within =
    All-contains (λ g. p g ≡ true) (groups_of axles) (group_at axles i j) (AllPass-from_list_all p (groups_of axles) all) (groups_contain axles i j ordered within)
