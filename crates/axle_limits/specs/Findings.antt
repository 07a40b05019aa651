-- The groups over their limits: which findings a truck has and in which order, and the same list computed.
use Rattle.std.specs.Prelude.{◌≡◌, ℕ, ◌-◌, ◌<◌, ◌≤◌, ◌⊎◌, ◌↔◌, Bool, ◌&&◌, List, [], ◌∷◌, ◌++◌, length, map, filter, Contains, AllPairs, nat_lt, nat_le, if◌then◌else◌}
use Rattle.std.specs.List.{list_all}
use Rattle.axle_train.specs.declared.axle.Axle.{Axle}
use Rattle.axle_train.specs.Trains.{group_weight}
use Rattle.axle_limits.specs.declared.legal.TheConstants.{GROSS_LIMIT}
use Rattle.axle_limits.specs.Limits.{IsGroupLimit, group_limit_of}
use Rattle.axle_limits.specs.Groups.{gross_of, groups_of}
use Rattle.axle_limits.specs.declared.group.Rule.{Rule}
use Rattle.axle_limits.specs.declared.group.Rule.TheVariants.{Gross}
use Rattle.axle_limits.specs.declared.finding.Finding.{Finding}
use Rattle.axle_limits.specs.declared.worst_group.WorstGroup.{WorstGroup}

-- the finding tells a group that is over its limit, with its weight, its limit and its rule
pub record IsGroupFinding (axles : List Axle) (f : Finding) : Type 0 where
  pub ordered : f.i ≤ f.j
  pub within : f.j < length axles
  pub weight_is : f.weight ≡ group_weight axles f.i f.j
  pub limit_is : IsGroupLimit axles f.i f.j f.limit f.rule
  pub over : f.limit < f.weight

-- 23 CFR 658.17(b): the finding tells a gross weight over its limit, of all axles
pub record IsGrossFinding (axles : List Axle) (f : Finding) : Type 0 where
  pub from_first : f.i ≡ 0
  pub to_last : f.j ≡ length axles - 1
  pub weight_is : f.weight ≡ gross_of axles
  pub limit_is : f.limit ≡ GROSS_LIMIT
  pub rule_is : f.rule ≡ Gross
  pub over : GROSS_LIMIT < f.weight

-- a group comes before the groups whose (i, j) is later in dictionary order, and before the gross weight
abbrev pub ComesBefore : Finding → Finding → Type 0
ComesBefore f g = ¬ (f.rule ≡ Gross) × ((g.rule ≡ Gross) ⊎ (f.i < g.i) ⊎ ((f.i ≡ g.i) × (f.j < g.j)))

-- the findings of a truck: exactly those of its groups and of its gross weight, each before those that come after it
pub record AreFindings (axles : List Axle) (list : List Finding) : Type 0 where
  pub listed : (f : Finding) → Contains list f ↔ (IsGroupFinding axles f ⊎ IsGrossFinding axles f)
  pub rising : AllPairs ComesBefore list

-- legal by weight: no group is over its limit, and neither is the gross weight
pub record IsLegalByWeight (axles : List Axle) : Type 0 where
  pub groups : (i j limit : ℕ) (rule : Rule) → i ≤ j → j < length axles → IsGroupLimit axles i j limit rule → group_weight axles i j ≤ limit
  pub gross : gross_of axles ≤ GROSS_LIMIT

-- the same as a test
unfoldable pub is_legal_by_weight : List Axle → Bool
is_legal_by_weight axles = list_all (λ g. nat_le g.weight g.limit) (groups_of axles) && nat_le (gross_of axles) GROSS_LIMIT

-- the group is over its limit
abbrev pub is_over_limit : WorstGroup → Bool
is_over_limit g = nat_lt g.limit g.weight

-- a group as a finding, with the rule that gives its limit
abbrev pub finding_of : List Axle → WorstGroup → Finding
finding_of axles g = record { i = g.i; j = g.j; weight = g.weight; limit = g.limit; rule = (group_limit_of axles g.i g.j).rule }

-- those of these groups that are over their limits
abbrev pub over_limit : List Axle → List WorstGroup → List Finding
over_limit axles groups = map (finding_of axles) (filter is_over_limit groups)

-- what is added to a list are those of these groups that are over their limits
abbrev pub AddsFindings : List Axle → List WorstGroup → List Finding → List Finding → Type 0
AddsFindings axles groups old new = new ≡ old ++ over_limit axles groups

-- the gross weight, where it is over its limit
abbrev pub gross_finding : List Axle → List Finding
gross_finding axles =
    if nat_lt GROSS_LIMIT (gross_of axles)
    then record { i = 0; j = length axles - 1; weight = gross_of axles; limit = GROSS_LIMIT; rule = Gross } ∷ []
    else []

-- the findings of a truck, computed: of all its groups those over their limits, and then the gross weight
abbrev pub findings_of : List Axle → List Finding
findings_of axles = over_limit axles (groups_of axles) ++ gross_finding axles
