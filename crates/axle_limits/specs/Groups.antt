-- Groups of axles: every run of consecutive axles, with its weight and its limit.
use Rattle.std.specs.Prelude.{◌≡◌, ℕ, ◌-◌, ◌<◌, ◌≤◌, ◌⊎◌, ◌↔◌, List, length, map, sum_by, Contains, AllPairs}
use Rattle.std.specs.List.{flat_map, range_with_len}
use Rattle.axle_train.specs.declared.axle.Axle.{Axle}
use Rattle.axle_train.specs.Trains.{group_weight}
use Rattle.axle_limits.specs.Limits.{computed_limit_of}
use Rattle.axle_limits.specs.declared.worst_group.WorstGroup.{WorstGroup}

-- the gross weight in pounds
abbrev pub gross_of : List Axle → ℕ
gross_of axles = sum_by (λ a. a.weight) axles

-- the axles i to j with their weight and their limit
abbrev pub group_at : List Axle → ℕ → ℕ → WorstGroup
group_at axles i j = record { i = i; j = j; weight = group_weight axles i j; limit = computed_limit_of axles i j }

-- the groups that begin with axle i, by their last axle
abbrev pub groups_from : List Axle → ℕ → List WorstGroup
groups_from axles i = map (λ j. group_at axles i j) (range_with_len i (length axles - i))

-- all groups of these axles, single axles among them, by their first axle and then by their last
unfoldable pub groups_of : List Axle → List WorstGroup
groups_of axles = flat_map (λ i. groups_from axles i) (range_with_len 0 (length axles))

-- a group of these axles, with its weight and its limit
pub record IsGroup (axles : List Axle) (g : WorstGroup) : Type 0 where
  pub ordered : g.i ≤ g.j
  pub within : g.j < length axles
  pub weight_is : g.weight ≡ group_weight axles g.i g.j
  pub limit_is : g.limit ≡ computed_limit_of axles g.i g.j

-- the first group is before the second in dictionary order of (i, j)
abbrev pub IsEarlierGroup : WorstGroup → WorstGroup → Type 0
IsEarlierGroup g h = (g.i < h.i) ⊎ ((g.i ≡ h.i) × (g.j < h.j))

-- the list has the groups of these axles, all of them and nothing else, each before the later ones
pub record AreGroups (axles : List Axle) (list : List WorstGroup) : Type 0 where
  pub listed : (g : WorstGroup) → Contains list g ↔ IsGroup axles g
  pub rising : AllPairs IsEarlierGroup list

-- `groups_of` is that list
abbrev pub GroupsAreListed : Type 0
GroupsAreListed = (axles : List Axle) → AreGroups axles (groups_of axles)
