-- The worst group: the one whose weight is the greatest part of its limit.
use Rattle.std.specs.Prelude.{◌≡◌, ℕ, ◌*◌, ◌<◌, ◌≤◌, Bool, nat_lt, nat_le, List, length, unwrap_or}
use Rattle.std.specs.List.{find, list_all}
use Rattle.axle_train.specs.declared.axle.Axle.{Axle}
use Rattle.axle_train.specs.Trains.{group_weight}
use Rattle.axle_limits.specs.Limits.{computed_limit_of}
use Rattle.axle_limits.specs.Groups.{IsGroup, group_at, groups_of}
use Rattle.axle_limits.specs.declared.worst_group.WorstGroup.{WorstGroup}

-- the weight of axles a to b is at most as great a part of their limit as that of this group; the two fractions are
-- compared by their cross products
abbrev pub IsNoGreaterPart : List Axle → ℕ → ℕ → WorstGroup → Type 0
IsNoGreaterPart axles a b g = group_weight axles a b * g.limit ≤ g.weight * computed_limit_of axles a b

-- and it is a smaller part
abbrev pub IsBetter : List Axle → ℕ → ℕ → WorstGroup → Type 0
IsBetter axles a b g = group_weight axles a b * g.limit < g.weight * computed_limit_of axles a b

-- no group is worse than this one, and each one before it in dictionary order is better
pub record IsWorst (axles : List Axle) (g : WorstGroup) : Type 0 where
  pub is_group : IsGroup axles g
  pub greatest : (a b : ℕ) → a ≤ b → b < length axles → IsNoGreaterPart axles a b g
  pub first_row : (a b : ℕ) → a < g.i → a ≤ b → b < length axles → IsBetter axles a b g
  pub first_in_row : (b : ℕ) → g.i ≤ b → b < g.j → IsBetter axles g.i b g

-- the same of the groups before (i, j) alone
pub record IsWorstSoFar (axles : List Axle) (i j : ℕ) (g : WorstGroup) : Type 0 where
  pub is_group : IsGroup axles g
  pub rows : (a b : ℕ) → a < i → a ≤ b → b < length axles → IsNoGreaterPart axles a b g
  pub row : (b : ℕ) → i ≤ b → b < j → IsNoGreaterPart axles i b g
  pub first_row : (a b : ℕ) → a < g.i → a ≤ b → b < length axles → IsBetter axles a b g
  pub first_in_row : (b : ℕ) → g.i ≤ b → b < g.j → IsBetter axles g.i b g

-- the numbers of a group are in range: its limit is above 0, and neither number is above 2,000,000 lb
pub record IsGroupInRange (g : WorstGroup) : Type 0 where
  pub some : 0 < g.limit
  pub light : g.weight ≤ 2000000
  pub small : g.limit ≤ 2000000

-- whatever is no worse than the first group is no worse than the second
abbrev pub IsAtLeastAsBad : WorstGroup → WorstGroup → Type 0
IsAtLeastAsBad g h = (weight limit : ℕ) → weight * g.limit ≤ g.weight * limit → weight * h.limit ≤ h.weight * limit

-- whatever is no worse than the first group is better than the second
abbrev pub IsWorseThan : WorstGroup → WorstGroup → Type 0
IsWorseThan g h = (weight limit : ℕ) → 0 < limit → weight * g.limit ≤ g.weight * limit → weight * h.limit < h.weight * limit

-- the weight of the second group is at most as great a part of its limit as that of the first, by the cross products
abbrev pub is_no_worse : WorstGroup → WorstGroup → Bool
is_no_worse g h = nat_le (h.weight * g.limit) (g.weight * h.limit)

-- the worst group: the first of all groups than which none is worse
unfoldable pub worst_of : List Axle → WorstGroup
worst_of axles = unwrap_or (find (λ g. list_all (is_no_worse g) (groups_of axles)) (groups_of axles)) (group_at axles 0 0)

-- a truck has a worst group
abbrev pub WorstIsThere : Type 0
WorstIsThere = (axles : List Axle) → 1 ≤ length axles → IsWorst axles (worst_of axles)

-- and no other one
abbrev pub WorstIsOne : Type 0
WorstIsOne = (axles : List Axle) (g : WorstGroup) → IsWorst axles g → g ≡ worst_of axles

-- every group weighs at most `allowance` thousandths of its limit
abbrev pub AllPass : List Axle → ℕ → Type 0
AllPass axles allowance =
    (i j : ℕ) → i ≤ j → j < length axles → 1000 * group_weight axles i j ≤ allowance * computed_limit_of axles i j

-- whether a group weighs more than so many thousandths of its limit
abbrev pub is_over : ℕ → WorstGroup → Bool
is_over allowance g = nat_lt (allowance * g.limit) (1000 * g.weight)
