-- The worst group decides whether every group passes an allowance.
use Rattle.std.proofs.Common.{◌≡◌, ℕ, ◌*◌, ◌≤◌, List, [], ◌∷◌, Bool, true, false, not, ◌&&◌, ◌||◌, leb, ltb, arith, refl, sym, ap, ◌∙◌}
use Rattle.std.specs.List.{list_all, list_any}
use Rattle.std.proofs.lemmas.Bool.{true≢false, le-leb, leb-true}
use Rattle.std.proofs.lemmas.Bool.Decides.{nat_tests}
use Rattle.axle_train.specs.declared.axle.Axle.{Axle}
use Rattle.axle_train.specs.Trains.{group_weight}
use Rattle.axle_limits.specs.declared.worst_group.WorstGroup.{WorstGroup}
use Rattle.axle_limits.specs.Limits.{computed_limit_of}
use Rattle.axle_limits.specs.declared.legal.TheConstants.{GROSS_LIMIT}
use Rattle.axle_limits.specs.Groups.{gross_of, groups_of}
use Rattle.axle_limits.specs.Findings.{is_legal_by_weight}
use Rattle.axle_limits.specs.Worst.{IsWorst, AllPass, is_over}
use Rattle.axle_limits.proofs.Cross.{cross_trans}
use Rattle.axle_limits.proofs.Groups.{all_groups, each_group}
use Rattle.axle_limits.proofs.SoFar.{limit_some}

-- where the worst group passes an allowance in thousandths of its limit, every group does
pub all_pass : (axles : List Axle) (worst : WorstGroup) (allowance : ℕ) → IsWorst axles worst → 1000 * worst.weight ≤ allowance * worst.limit → AllPass axles allowance
all_pass axles worst allowance is passes a b ordered within =
    omega (arith, cross_trans (group_weight axles a b) (computed_limit_of axles a b) worst.weight worst.limit allowance 1000 (is.greatest a b ordered within) (omega (arith, passes)) (rw is.is_group.limit_is (limit_some axles worst.i worst.j)))

-- and where every group passes it, the worst one does
pub worst_passes : (axles : List Axle) (worst : WorstGroup) (allowance : ℕ) → IsWorst axles worst → AllPass axles allowance → 1000 * worst.weight ≤ allowance * worst.limit
worst_passes axles worst allowance is all =
    rw (is.is_group.weight_is, is.is_group.limit_is) (all worst.i worst.j is.is_group.ordered is.is_group.within)

not_true : (b : Bool) → (b ≡ true → ⊥) → b ≡ false
not_true true h = absurd (h refl)
not_true false h = refl

-- every group passes a test on its weight and its limit exactly where the worst one does
all_by_worst : (axles : List Axle) (g : WorstGroup) (allowance : ℕ) → IsWorst axles g
    → list_all (λ h. leb (1000 * h.weight) (allowance * h.limit)) (groups_of axles) ≡ leb (1000 * g.weight) (allowance * g.limit)
all_by_worst axles g allowance is = same (leb (1000 * g.weight) (allowance * g.limit)) refl
  where
    p : WorstGroup → Bool
    p h = leb (1000 * h.weight) (allowance * h.limit)

    same : (b : Bool) → leb (1000 * g.weight) (allowance * g.limit) ≡ b → list_all p (groups_of axles) ≡ b
    same true passes = all_groups p axles (λ i j ordered within.
        le-leb (1000 * group_weight axles i j) (allowance * computed_limit_of axles i j)
        (all_pass axles g allowance is (leb-true (1000 * g.weight) (allowance * g.limit) passes) i j ordered within))
    same false fails = not_true (list_all p (groups_of axles)) (λ all.
        true≢false (sym (le-leb (1000 * g.weight) (allowance * g.limit)
        (worst_passes axles g allowance is (λ i j ordered within. leb-true (1000 * group_weight axles i j) (allowance * computed_limit_of axles i j) (each_group p axles i j all ordered within)))) ∙ fails))

-- some element passes a test exactly where not all fail it
pub any_is_not_all : {X : Type 0} (p : X → Bool) (xs : List X) → list_any p xs ≡ not (list_all (λ x. not (p x)) xs)
any_is_not_all p [] = refl
any_is_not_all p (x ∷ xs) = ap (λ (b : Bool). p x || b) (any_is_not_all p xs) ∙ turned (p x) (list_all (λ x. not (p x)) xs)
  where
    turned : (a b : Bool) → (a || not b) ≡ not (not a && b)
    turned true b = refl
    turned false b = refl

turned : (m n : ℕ) → not (ltb m n) ≡ leb n m
turned m n = grind (arith, nat_tests)

turned_back : (m n : ℕ) → not (leb n m) ≡ ltb m n
turned_back m n = grind (arith, nat_tests)

in_thousandths : (m n : ℕ) → leb m n ≡ leb (1000 * m) (1000 * n)
in_thousandths m n = grind (arith, nat_tests)

list_all_same : {X : Type 0} (p q : X → Bool) → ((x : X) → p x ≡ q x) → (xs : List X) → list_all p xs ≡ list_all q xs
list_all_same p q same [] = refl
list_all_same p q same (x ∷ xs) = rw (same x, list_all_same p q same xs) refl

-- some group is over an allowance exactly where the worst one is
pub any_over : (axles : List Axle) (g : WorstGroup) (allowance : ℕ) → IsWorst axles g
    → list_any (is_over allowance) (groups_of axles) ≡ is_over allowance g
any_over axles g allowance is =
    any_is_not_all (is_over allowance) (groups_of axles)
    ∙ ap not (list_all_same (λ h. not (is_over allowance h)) (λ h. leb (1000 * h.weight) (allowance * h.limit)) (λ h. turned (allowance * h.limit) (1000 * h.weight)) (groups_of axles) ∙ all_by_worst axles g allowance is)
    ∙ turned_back (allowance * g.limit) (1000 * g.weight)

-- no group is over its limit exactly where the worst one is not
pub legal_by_worst : (axles : List Axle) (g : WorstGroup) → IsWorst axles g
    → is_legal_by_weight axles ≡ (leb g.weight g.limit && leb (gross_of axles) GROSS_LIMIT)
unfolding is_legal_by_weight
legal_by_worst axles g is =
    let groups = list_all_same (λ h. leb h.weight h.limit) (λ h. leb (1000 * h.weight) (1000 * h.limit)) (λ h. in_thousandths h.weight h.limit) (groups_of axles)
    ∙ all_by_worst axles g 1000 is ∙ sym (in_thousandths g.weight g.limit) in
    ap (λ (b : Bool). b && leb (gross_of axles) GROSS_LIMIT) groups
