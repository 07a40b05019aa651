-- The weight of a group is a difference of running weights.
use Rattle.std.proofs.Common.{◌≡◌, ℕ, ◌+◌, ◌-◌, ◌≤◌, ◌<◌, List, length, take, drop, sum_by, arith, slice_index, ap, sym, ◌∙◌}
use Rattle.std.proofs.Math.Seq.{take-add}
use Rattle.std.proofs.lemmas.List.Sums.{sum_by-append}
use Rattle.axle_train.specs.declared.axle.Axle.{Axle}
use Rattle.axle_train.specs.Trains.{group_weight, weight_before, AreWeightsBefore}

abbrev weight_of : Axle → ℕ
weight_of a = a.weight

-- the axles before i and the group from i to j are the axles before j + 1
pub weight_before-group : (axles : List Axle) (i j : ℕ) → i ≤ j → weight_before axles i + group_weight axles i j ≡ weight_before axles (j + 1)
weight_before-group axles i j ordered =
    let n : i + (j + 1 - i) ≡ j + 1 = omega arith in
    let split = ap (sum_by weight_of) (take-add i (j + 1 - i) axles) ∙ sum_by-append weight_of (take i axles) (take (j + 1 - i) (drop i axles)) in
    sym split ∙ ap (weight_before axles) n

-- the weight of a group by two running weights
pub group-difference : (axles : List Axle) (before : List ℕ) (i j : ℕ) → AreWeightsBefore axles before → i ≤ j → j < length axles → (slice_index before i ≤ slice_index before (j + 1)) × (slice_index before (j + 1) - slice_index before i ≡ group_weight axles i j)
group-difference axles before i j weights ordered within =
    let front = weights i (omega arith) in
    let end = weights (j + 1) (omega arith) in
    let whole = weight_before-group axles i j ordered in
    (omega (arith, front, end, whole), omega (arith, front, end, whole))
