-- What the test of legality by weight means.
use Rattle.std.proofs.Common.{◌≡◌, ◌↔◌, List, true, leb, ap}
use Rattle.std.specs.List.{list_all}
use Rattle.std.proofs.lemmas.Bool.{and_from, and_parts, leb-true, le-leb}
use Rattle.axle_train.specs.declared.axle.Axle.{Axle}
use Rattle.axle_train.specs.Trains.{group_weight}
use Rattle.axle_limits.specs.declared.group.GroupLimit.{GroupLimit}
use Rattle.axle_limits.specs.declared.legal.TheConstants.{GROSS_LIMIT}
use Rattle.axle_limits.specs.declared.worst_group.WorstGroup.{WorstGroup}
use Rattle.axle_limits.specs.Limits.{group_limit_of, computed_limit_of}
use Rattle.axle_limits.specs.Groups.{gross_of, groups_of}
use Rattle.axle_limits.specs.Findings.{IsLegalByWeight, is_legal_by_weight}
use Rattle.axle_limits.proofs.OneLimit.{group_limit_is, group_limit_only}
use Rattle.axle_limits.proofs.Groups.{all_groups, each_group}

by_weight_only : (axles : List Axle) → is_legal_by_weight axles ≡ true → IsLegalByWeight axles
unfolding is_legal_by_weight
by_weight_only axles h =
    let parts = and_parts (list_all (λ (g : WorstGroup). leb g.weight g.limit) (groups_of axles)) (leb (gross_of axles) GROSS_LIMIT) h in
    record {
      groups = λ i j limit rule ordered within is.
          let one = ap (λ (l : GroupLimit). l.limit) (group_limit_only axles i j limit rule ordered is) in
          let low = leb-true (group_weight axles i j) (computed_limit_of axles i j) (each_group (λ (g : WorstGroup). leb g.weight g.limit) axles i j parts.0 ordered within) in
          rw (← one) low;
      gross = leb-true (gross_of axles) GROSS_LIMIT parts.1;
    }

by_weight : (axles : List Axle) → IsLegalByWeight axles → is_legal_by_weight axles ≡ true
unfolding is_legal_by_weight
by_weight axles is =
    and_from (list_all (λ (g : WorstGroup). leb g.weight g.limit) (groups_of axles)) (leb (gross_of axles) GROSS_LIMIT)
    (all_groups (λ (g : WorstGroup). leb g.weight g.limit) axles (λ i j ordered within.
    le-leb (group_weight axles i j) (computed_limit_of axles i j) (is.groups i j (computed_limit_of axles i j) (group_limit_of axles i j).rule ordered within (group_limit_is axles i j ordered))))
    (le-leb (gross_of axles) GROSS_LIMIT is.gross)

-- axles pass the test exactly where they are legal by weight
pub legal_by_weight_means : (axles : List Axle) → (is_legal_by_weight axles ≡ true) ↔ IsLegalByWeight axles
legal_by_weight_means axles = (by_weight_only axles, by_weight axles)
